-- The turns of a loop over items or members, from its start to its end.
use Rattle.std.proofs.Common.{◌≡◌, ℕ, ◌-◌, ◌<◌, List, [], ◌∷◌, ◌++◌, length, Option, Some, None, refl, ap, ◌∙◌, arith}
use Rattle.json.specs.{Json.{parse_map, after_end_array, read_key, items, members, value}, Token.Token}
use Rattle.serde_json.specs.{Data.{Data, array, object, Items, no_items, item, Members, no_members, put}, Read.{of_items, of_members, converted}}
use Rattle.json.proofs.Grammar.{read_key-shorter}
use Rattle.span_read.specs.Tokens.{data_at, TakesValue, TakesArray, TakesObject, items_before, ItemsSoFar, MembersSoFar}
use Rattle.span_read.proofs.Grammar.{data_at-begin_array, data_at-begin_object, data_at-shorter, item_read, item_refused, items_over, member_read, member_refused, key_refused, members_over}

same_items : (r : Option (Items × List Token)) → r ≡ parse_map (items_before []) r
same_items None = refl
same_items (Some p) = refl

items_push : (ds : List Data) (d : Data) (rest : Items) → items_before ds (item d rest) ≡ items_before (ds ++ d ∷ []) rest
items_push [] d rest = refl
items_push (e ∷ ds) d rest = ap (item e) (items_push ds d rest)

one_more : (ds : List Data) (d : Data) (r : Option (Items × List Token)) → parse_map (items_before ds) (parse_map (item d) r) ≡ parse_map (items_before (ds ++ d ∷ [])) r
one_more ds d None = refl
one_more ds d (Some p) = ap (λ items. Some (items, p.1)) (items_push ds d p.0)

-- no bracket closes the array at `ts`, so nothing is taken
abbrev pub GoesOn : List Token → List Token → Type 0
GoesOn ts going = (after_end_array ts ≡ None) × (going ≡ ts)

pub items_smaller : (depth : ℕ) (ts going r : List Token) (P : Data → Type 0) → GoesOn ts going → TakesValue depth going r P → length r < length ts
items_smaller depth ts going r P goes taken = let less = data_at-shorter depth going r taken.0 taken.1 in omega (arith, ap length goes.1)

pub items_start : (depth : ℕ) (start : List Token) (P : List Data → Type 0) → P [] → ItemsSoFar depth start start P
items_start depth start P holds = record { before = []; turns = length start; enough = omega arith; same = same_items _; holds = holds }

module _ (depth : ℕ) (some : 0 < depth) (P : List Data → Type 0) (start ts : List Token) (s : ItemsSoFar (depth - 1) start ts P) where
  pub items_turn : (Q : List Data → Type 0) (going r : List Token) → GoesOn ts going → TakesValue (depth - 1) going r (λ d. Q (s.before ++ d ∷ [])) → ItemsSoFar (depth - 1) start r Q
  items_turn Q going r goes taken =
      let read : data_at (depth - 1) ts ≡ Some (taken.0, r) = rw (← goes.1) taken.1 in
      let less = data_at-shorter (depth - 1) ts r taken.0 read in
      record {
        before = s.before ++ taken.0 ∷ [];
        turns = s.turns - 1;
        enough = omega (arith, s.enough);
        same = s.same ∙ ap (parse_map (items_before s.before)) (item_read (value (depth - 1)) s.turns ts r taken.0 (omega (arith, s.enough)) goes.0 read) ∙ one_more s.before taken.0 _;
        holds = taken.2;
      }

  none_left : converted of_items (items (value (depth - 1)) s.turns ts) ≡ None → data_at depth (Token.begin_array ∷ start) ≡ None
  none_left none = data_at-begin_array depth start some ∙ ap (parse_map array) (s.same ∙ ap (parse_map (items_before s.before)) none)

  pub items_refused : (going : List Token) → GoesOn ts going → data_at (depth - 1) going ≡ None → data_at depth (Token.begin_array ∷ start) ≡ None
  items_refused going goes none =
      let here : data_at (depth - 1) ts ≡ None = rw (← goes.1) none in
      none_left (item_refused (value (depth - 1)) s.turns ts goes.0 here)

  pub items_finish : (Q : Items → Type 0) (r : List Token) → after_end_array ts ≡ Some r → Q (items_before s.before no_items) → TakesArray depth start r Q
  items_finish Q r over holds = (
    items_before s.before no_items,
    data_at-begin_array depth start some ∙ ap (parse_map array) (s.same ∙ ap (parse_map (items_before s.before)) (items_over (value (depth - 1)) s.turns ts r s.enough over)),
    holds,
  )

pub members_smaller : (depth : ℕ) (k : List ℕ) (ts t r : List Token) (P : Data → Type 0) → read_key ts ≡ Some (Some k, t) → TakesValue depth t r P → length r < length ts
members_smaller depth k ts t r P key taken = omega (arith, read_key-shorter ts (Some k) t key, data_at-shorter depth t r taken.0 taken.1)

pub members_start : (depth : ℕ) (start : List Token) (P : Members → Type 0) → P no_members → MembersSoFar depth start start P
members_start depth start P holds = record { before = no_members; turns = length start; enough = omega arith; same = refl; holds = holds }

module _ (depth : ℕ) (some : 0 < depth) (P : Members → Type 0) (start ts : List Token) (s : MembersSoFar (depth - 1) start ts P) where
  none_taken : converted (λ ms. of_members ms s.before) (members (value (depth - 1)) s.turns ts) ≡ None → data_at depth (Token.begin_object ∷ start) ≡ None
  none_taken none = data_at-begin_object depth start some ∙ ap (parse_map object) (s.same ∙ none)

  pub members_turn : (Q : Members → Type 0) (k : List ℕ) (t r : List Token) → read_key ts ≡ Some (Some k, t) → TakesValue (depth - 1) t r (λ d. Q (put k d s.before)) → MembersSoFar (depth - 1) start r Q
  members_turn Q k t r key taken =
      let shorter = read_key-shorter ts (Some k) t key in
      let less = data_at-shorter (depth - 1) t r taken.0 taken.1 in
      record {
        before = put k taken.0 s.before;
        turns = s.turns - 1;
        enough = omega (arith, s.enough);
        same = s.same ∙ member_read (value (depth - 1)) s.before s.turns k ts t r taken.0 (omega (arith, s.enough)) key taken.1;
        holds = taken.2;
      }

  pub members_key_refused : read_key ts ≡ None → data_at depth (Token.begin_object ∷ start) ≡ None
  members_key_refused none = none_taken (key_refused (value (depth - 1)) s.before s.turns ts none)

  pub members_value_refused : (k : List ℕ) (t : List Token) → read_key ts ≡ Some (Some k, t) → data_at (depth - 1) t ≡ None → data_at depth (Token.begin_object ∷ start) ≡ None
  members_value_refused k t key none = none_taken (member_refused (value (depth - 1)) s.before s.turns k ts t key none)

  pub members_finish : (r : List Token) → read_key ts ≡ Some (None, r) → TakesObject depth start r P
  members_finish r over = (
    s.before,
    data_at-begin_object depth start some ∙ ap (parse_map object) (s.same ∙ members_over (value (depth - 1)) s.before s.turns ts r s.enough over),
    s.holds,
  )

-- ---- what a value is that begins with a bracket

pub array_value : (depth : ℕ) (old mid new : List Token) (P : Data → Type 0) (Q : Items → Type 0) → old ≡ Token.begin_array ∷ mid → ((ds : Items) → Q ds → P (array ds)) → TakesArray depth mid new Q → TakesValue depth old new P
array_value depth old mid new P Q opened gives taken = (array taken.0, ap (data_at depth) opened ∙ taken.1, gives taken.0 taken.2)

pub object_value : (depth : ℕ) (old mid new : List Token) (P : Data → Type 0) (Q : Members → Type 0) → old ≡ Token.begin_object ∷ mid → ((ms : Members) → Q ms → P (object ms)) → TakesObject depth mid new Q → TakesValue depth old new P
object_value depth old mid new P Q opened gives taken = (object taken.0, ap (data_at depth) opened ∙ taken.1, gives taken.0 taken.2)
