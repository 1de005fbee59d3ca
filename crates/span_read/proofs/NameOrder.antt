-- The pairs of an object's members are in the order of its keys.
use Rattle.std.specs.{BTreeMap.insert_entry, List.{AllByRecursion, Sorted.IsStrictlySortedBy}, Map.keys_of, Ordering.match_ordering, String.string_cmp}
use Rattle.std.proofs.Common.{◌≡◌, ℕ, List, [], ◌∷◌, Less, string_bytes, Ordering, Equal, Greater, refl, ap}
use Rattle.serde_json.specs.{Data.{Data, Members, no_members, member, put}, View.members_view}
use Rattle.serde_json.proofs.Views.{Entry}
use Rattle.span_read.specs.{ArgValue, IsBelowAll, IsInNameOrder, Arguments, text_cmp, Fields.{arg_value, pairs_of}}

IsBelowAll-pairs_of : (e : Entry) (es : List Entry) → AllByRecursion (λ k. string_cmp e.0 k ≡ Less) (keys_of es) → IsBelowAll (string_bytes e.0) (pairs_of (members_view es))
IsBelowAll-pairs_of e [] below = tt
IsBelowAll-pairs_of e (f ∷ es) below = (below.0, IsBelowAll-pairs_of e es below.1)

pub IsInNameOrder-pairs_of : (es : List Entry) → IsStrictlySortedBy string_cmp (keys_of es) → IsInNameOrder (pairs_of (members_view es))
unfolding IsStrictlySortedBy
IsInNameOrder-pairs_of [] sorted = tt
IsInNameOrder-pairs_of (e ∷ es) sorted = (IsBelowAll-pairs_of e es sorted.0, IsInNameOrder-pairs_of es sorted.1)

below : (p : List ℕ × ArgValue) (ps : Arguments) → AllByRecursion (λ k. text_cmp p.0 k ≡ Less) (keys_of ps) → IsBelowAll p.0 ps
below p [] all = tt
below p (q ∷ ps) all = (all.0, below p ps all.1)

-- a map is in the order of its names
pub IsInNameOrder-sorted : (ps : Arguments) → IsStrictlySortedBy text_cmp (keys_of ps) → IsInNameOrder ps
unfolding IsStrictlySortedBy
IsInNameOrder-sorted [] sorted = tt
IsInNameOrder-sorted (p ∷ ps) sorted = (below p ps sorted.0, IsInNameOrder-sorted ps sorted.1)

pairs_put : (o : Ordering) (k l : List ℕ) (d e : Data) (ms : Members) → pairs_of (put k d ms) ≡ insert_entry text_cmp (pairs_of ms) k (arg_value d)
    → pairs_of (match_ordering o (member k d (member l e ms)) (member l d ms) (member l e (put k d ms)))
    ≡ match_ordering o ((k, arg_value d) ∷ (l, arg_value e) ∷ pairs_of ms) ((l, arg_value d) ∷ pairs_of ms) ((l, arg_value e) ∷ insert_entry text_cmp (pairs_of ms) k (arg_value d))
pairs_put Less k l d e ms later = refl
pairs_put Equal k l d e ms later = refl
pairs_put Greater k l d e ms later = ap (λ ps. (l, arg_value e) ∷ ps) later

-- a member that is put in is a pair that is inserted
pub pairs_of-put : (k : List ℕ) (d : Data) (ms : Members) → pairs_of (put k d ms) ≡ insert_entry text_cmp (pairs_of ms) k (arg_value d)
pairs_of-put k d no_members = refl
pairs_of-put k d (member l e ms) = pairs_put (text_cmp k l) k l d e ms (pairs_of-put k d ms)
