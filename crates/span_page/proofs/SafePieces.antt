-- A text with escapes, piece by piece.
use Rattle.std.specs.{List.{join_with_byte, starts_with}, Prelude.{T, not, codes, map}}
use Rattle.std.proofs.{Common.{◌≡◌, ◌≢◌, ℕ, zero, suc, ◌≤◌, Bool, true, false, ◌&&◌, cond, List, [], ◌∷◌, ◌++◌, length, nat_eq, refl, sym, ap, ap₂, ◌∙◌, append_assoc, append-nil, arith}, Math.Facts.no_eqb}
use Rattle.json.specs.Print.{escape}
use Rattle.span_page.specs.{Unit, Entry, SpanColumn, rows_by_process, json_text_of, report_of, FileEnd, Input, end_lines, refusals_of, Data.{all_stacks_json, array_of, data_of, graphs_json, most_frames, names_json, rest_of, threads_of}, Safe.{safe, safe_after, safe_byte}}

-- what stands for a text that begins with a byte, by what it begins with
abbrev begun : Bool → Bool → ℕ → List ℕ → List ℕ
begun line paragraph byte later =
    cond line (codes "\\u2028" ++ safe_after 2 later) (cond paragraph (codes "\\u2029" ++ safe_after 2 later) (safe_byte byte ++ safe_after 0 later))

-- numbers that differ
not_equal : (a b : ℕ) → a ≢ b → nat_eq a b ≡ false
not_equal a b differ = by (nat_eq a b) (no_eqb differ)
  where
    by : (equal : Bool) → T (not equal) → equal ≡ false
    by true absurdity = absurd absurdity
    by false is = refl

-- a byte with which no separator begins
pub safe-byte : (byte : ℕ) → nat_eq 226 byte ≡ false → (later : List ℕ) → safe (byte ∷ later) ≡ safe_byte byte ++ safe later
safe-byte byte lead later = ap₂ (λ line paragraph. begun line paragraph byte later) (none _) (none _)
  where
    none : (others : Bool) → (nat_eq 226 byte && others) ≡ false
    none others = ap (λ first. first && others) lead

-- a byte that stands for itself
pub safe-itself : (byte : ℕ) → byte ≢ 60 → byte ≢ 62 → byte ≢ 38 → byte ≢ 226 → (later : List ℕ) → safe (byte ∷ later) ≡ byte ∷ safe later
unfolding safe_byte
safe-itself byte less greater ampersand lead later =
    safe-byte byte (not_equal 226 byte (λ same. lead (sym same))) later
    ∙ ap (λ is. cond is (codes "\\u003c") (cond (nat_eq byte 62) (codes "\\u003e") (cond (nat_eq byte 38) (codes "\\u0026") (byte ∷ []))) ++ safe later) (not_equal byte 60 less)
    ∙ ap (λ is. cond is (codes "\\u003e") (cond (nat_eq byte 38) (codes "\\u0026") (byte ∷ [])) ++ safe later) (not_equal byte 62 greater)
    ∙ ap (λ is. cond is (codes "\\u0026") (byte ∷ []) ++ safe later) (not_equal byte 38 ampersand)

-- A piece that ends in a byte of no separator has its own escapes, whatever is behind it.
module _ (last : ℕ) (lead : nat_eq 226 last ≡ false) (second : nat_eq 128 last ≡ false) (rest : List ℕ) where
  -- no separator begins before the last byte
  before : (byte : ℕ) (later : List ℕ) → safe (byte ∷ last ∷ later) ≡ safe_byte byte ++ safe (last ∷ later)
  before byte later = ap₂ (λ line paragraph. begun line paragraph byte (last ∷ later)) (none (nat_eq 226 byte) _) (none (nat_eq 226 byte) _)
    where
      none : (first others : Bool) → (first && (nat_eq 128 last && others)) ≡ false
      none true others = ap (λ is. is && others) second
      none false others = refl

  step : (line paragraph : Bool) (byte : ℕ) (long short : List ℕ) → safe_after 2 long ≡ safe_after 2 short ++ safe rest → safe long ≡ safe short ++ safe rest →
      begun line paragraph byte long ≡ begun line paragraph byte short ++ safe rest
  step true paragraph byte long short two one = ap (λ (t : List ℕ). codes "\\u2028" ++ t) two
  step false true byte long short two one = ap (λ (t : List ℕ). codes "\\u2029" ++ t) two
  step false false byte long short two one = ap (λ (t : List ℕ). safe_byte byte ++ t) one ∙ sym (append_assoc (safe_byte byte) (safe short) (safe rest))

  pub safe_after-append : (n : ℕ) (text : List ℕ) → n ≤ suc (length text) →
      safe_after n ((text ++ last ∷ []) ++ rest) ≡ safe_after n (text ++ last ∷ []) ++ safe rest
  safe_after-append zero [] few = safe-byte last lead rest ∙ ap (λ (t : List ℕ). t ++ safe rest) (sym (safe-byte last lead [] ∙ append-nil (safe_byte last)))
  safe_after-append (suc zero) [] few = refl
  safe_after-append (suc (suc n)) [] few = absurd (omega (arith, few))
  safe_after-append (suc n) (byte ∷ text) few = safe_after-append n text (omega (arith, few))
  safe_after-append zero (byte ∷ []) few =
      before byte rest ∙ ap (λ (t : List ℕ). safe_byte byte ++ t) (safe_after-append zero [] (omega (arith)))
      ∙ sym (append_assoc (safe_byte byte) (safe (last ∷ [])) (safe rest)) ∙ ap (λ (t : List ℕ). t ++ safe rest) (sym (before byte []))
  safe_after-append zero (byte ∷ next ∷ []) few =
      step ((nat_eq 226 byte && (nat_eq 128 next && (nat_eq 168 last && true)))) ((nat_eq 226 byte && (nat_eq 128 next && (nat_eq 169 last && true)))) byte
      (next ∷ last ∷ rest) (next ∷ last ∷ []) (safe_after-append 2 (next ∷ []) (omega (arith))) (safe_after-append zero (next ∷ []) (omega (arith)))
  safe_after-append zero (byte ∷ next ∷ third ∷ text) few =
      step ((nat_eq 226 byte && (nat_eq 128 next && (nat_eq 168 third && true)))) ((nat_eq 226 byte && (nat_eq 128 next && (nat_eq 169 third && true)))) byte
      (next ∷ third ∷ ((text ++ last ∷ []) ++ rest)) (next ∷ third ∷ (text ++ last ∷ []))
      (safe_after-append 2 (next ∷ third ∷ text) (omega (arith))) (safe_after-append zero (next ∷ third ∷ text) (omega (arith)))

-- a JSON text, and what is behind it
safe-json : (text rest : List ℕ) → safe (json_text_of text ++ rest) ≡ safe (json_text_of text) ++ safe rest
unfolding json_text_of
safe-json text rest = safe_after-append 34 refl refl rest zero (34 ∷ escape text) (omega (arith))

-- the stacks of threads, and what is behind them
safe-stacks : (left : ℕ) (labels : List SpanColumn) (journal : List Entry) (rest : List ℕ) → safe (all_stacks_json left labels journal ++ rest) ≡ safe (all_stacks_json left labels journal) ++ safe rest
unfolding all_stacks_json
safe-stacks left labels journal rest =
    safe_after-append 93 refl refl rest zero (91 ∷ join_with_byte 44 (graphs_json labels journal left (threads_of (rows_by_process journal)))) (omega (arith))

-- the names of files, and what is behind them
safe-names : (files : List Input) (rest : List ℕ) → safe (names_json files ++ rest) ≡ safe (names_json files) ++ safe rest
unfolding names_json
safe-names files rest = safe_after-append 93 refl refl rest zero (91 ∷ join_with_byte 44 (map (λ (file : Input). json_text_of file.name) files)) (omega (arith))

-- A piece before a byte of no separator has its own escapes too, whatever it ends in.
module _ (first : ℕ) (second : nat_eq 128 first ≡ false) (line : nat_eq 168 first ≡ false) (paragraph : nat_eq 169 first ≡ false) (rest : List ℕ) where
  nothing : (one others : Bool) → others ≡ false → (one && others) ≡ false
  nothing true others is = is
  nothing false others is = refl

  pub safe_after-before : (n : ℕ) (text : List ℕ) → n ≤ length text → safe_after n (text ++ first ∷ rest) ≡ safe_after n text ++ safe (first ∷ rest)
  safe_after-before zero [] few = refl
  safe_after-before (suc n) [] few = absurd (omega (arith, few))
  safe_after-before (suc n) (byte ∷ text) few = safe_after-before n text (omega (arith, few))
  safe_after-before zero (byte ∷ []) few =
      ap₂ (λ l p. begun l p byte (first ∷ rest)) (nothing (nat_eq 226 byte) (nat_eq 128 first && starts_with nat_eq rest (168 ∷ [])) (ap (λ is. is && starts_with nat_eq rest (168 ∷ [])) second))
      (nothing (nat_eq 226 byte) (nat_eq 128 first && starts_with nat_eq rest (169 ∷ [])) (ap (λ is. is && starts_with nat_eq rest (169 ∷ [])) second))
      ∙ sym (ap (λ (t : List ℕ). t ++ safe (first ∷ rest)) (ap₂ (λ l p. begun l p byte []) (nothing (nat_eq 226 byte) false refl) (nothing (nat_eq 226 byte) false refl) ∙ append-nil (safe_byte byte)))
  safe_after-before zero (byte ∷ next ∷ []) few =
      ap₂ (λ l p. begun l p byte (next ∷ first ∷ rest)) (nothing (nat_eq 226 byte) (nat_eq 128 next && (nat_eq 168 first && true)) (nothing (nat_eq 128 next) (nat_eq 168 first && true) (ap (λ is. is && true) line)))
      (nothing (nat_eq 226 byte) (nat_eq 128 next && (nat_eq 169 first && true)) (nothing (nat_eq 128 next) (nat_eq 169 first && true) (ap (λ is. is && true) paragraph)))
      ∙ ap (λ (t : List ℕ). safe_byte byte ++ t) (safe_after-before zero (next ∷ []) (omega (arith)))
      ∙ sym (append_assoc (safe_byte byte) (safe (next ∷ [])) (safe (first ∷ rest)))
      ∙ sym (ap (λ (t : List ℕ). t ++ safe (first ∷ rest)) (ap₂ (λ l p. begun l p byte (next ∷ [])) (nothing (nat_eq 226 byte) (nat_eq 128 next && false) (nothing (nat_eq 128 next) false refl)) (nothing (nat_eq 226 byte) (nat_eq 128 next && false) (nothing (nat_eq 128 next) false refl))))
  safe_after-before zero (byte ∷ next ∷ third ∷ text) few =
      step 44 refl refl (first ∷ rest) ((nat_eq 226 byte && (nat_eq 128 next && (nat_eq 168 third && true)))) ((nat_eq 226 byte && (nat_eq 128 next && (nat_eq 169 third && true)))) byte
      (next ∷ third ∷ (text ++ first ∷ rest)) (next ∷ third ∷ text) (safe_after-before 2 (next ∷ third ∷ text) (omega (arith))) (safe_after-before zero (next ∷ third ∷ text) (omega (arith)))

-- the report of a run, and what is behind it
pub safe-report : (report rest : List ℕ) → safe (codes "{\"report\":" ++ (json_text_of report ++ rest)) ≡ (codes "{\"report\":" ++ safe (json_text_of report)) ++ safe rest
unfolding safe_byte
safe-report report rest = ap (λ (t : List ℕ). codes "{\"report\":" ++ t) (safe-json report rest)

-- a table, and what is behind it
safe-table : (table rest : List ℕ) → safe (codes ",\"table\":" ++ (json_text_of table ++ rest)) ≡ codes ",\"table\":" ++ (safe (json_text_of table) ++ safe rest)
unfolding safe_byte
safe-table table rest = ap (λ (t : List ℕ). codes ",\"table\":" ++ t) (safe-json table rest)

-- what a page has of a run beside its report, from its pieces
pub safe-rest : (unit : Unit) (left : ℕ) (labels : List SpanColumn) (files : List Input) (ends : List FileEnd) (journal : List Entry) →
    safe (rest_of unit left labels files ends journal)
    ≡ codes ",\"refused\":" ++ (safe (json_text_of (refusals_of unit files ends journal)) ++ (codes ",\"files\":" ++ (safe (names_json files)
    ++ (codes ",\"faults\":" ++ (safe (json_text_of (end_lines files ends)) ++ (codes ",\"stacks\":" ++ (safe (all_stacks_json left labels journal) ++ codes "}")))))))
unfolding safe_byte
safe-rest unit left labels files ends journal =
    let stacks = codes ",\"stacks\":" ++ (all_stacks_json left labels journal ++ codes "}") in
    let faults = codes ",\"faults\":" ++ (json_text_of (end_lines files ends) ++ stacks) in
    ap (λ (t : List ℕ). codes ",\"refused\":" ++ t) (safe-json (refusals_of unit files ends journal) (codes ",\"files\":" ++ (names_json files ++ faults))
    ∙ ap (λ (t : List ℕ). safe (json_text_of (refusals_of unit files ends journal)) ++ (codes ",\"files\":" ++ t)) (safe-names files faults
    ∙ ap (λ (t : List ℕ). safe (names_json files) ++ (codes ",\"faults\":" ++ t)) (safe-json (end_lines files ends) stacks
    ∙ ap (λ (t : List ℕ). safe (json_text_of (end_lines files ends)) ++ (codes ",\"stacks\":" ++ t)) (safe-stacks left labels journal (codes "}")))))

-- the data of a run, from their pieces
pub safe-data : (unit : Unit) (labels : List SpanColumn) (table : List ℕ) (files : List Input) (ends : List FileEnd) (journal : List Entry) →
    safe (data_of unit labels table files ends journal)
    ≡ (codes "{\"report\":" ++ safe (json_text_of (report_of unit journal))) ++ (codes ",\"table\":" ++ (safe (json_text_of table) ++ safe (rest_of unit most_frames labels files ends journal)))
safe-data unit labels table files ends journal =
    let rest = rest_of unit most_frames labels files ends journal in
    safe-report (report_of unit journal) (codes ",\"table\":" ++ (json_text_of table ++ rest))
    ∙ ap (λ (t : List ℕ). (codes "{\"report\":" ++ safe (json_text_of (report_of unit journal))) ++ t) (safe-table table rest)

-- the data of runs, from their pieces
pub safe-runs : (texts : List (List ℕ)) (table graph : List ℕ) →
    safe (codes "{\"runs\":" ++ (array_of texts ++ (codes ",\"table\":" ++ (json_text_of table ++ (codes ",\"graph\":" ++ (graph ++ codes "}"))))))
    ≡ codes "{\"runs\":[" ++ (safe (join_with_byte 44 texts) ++ (codes "],\"table\":" ++ (safe (json_text_of table) ++ (codes ",\"graph\":" ++ (safe graph ++ codes "}")))))
unfolding safe_byte
safe-runs texts table graph =
    let runs = join_with_byte 44 texts in
    let last = codes ",\"graph\":" ++ (graph ++ codes "}") in
    let behind = codes ",\"table\":" ++ (json_text_of table ++ last) in
    ap (λ (t : List ℕ). codes "{\"runs\":[" ++ t) (
    ap safe (append_assoc runs (93 ∷ []) behind)
    ∙ safe_after-before 93 refl refl refl behind zero runs (omega arith)
    ∙ ap (λ (t : List ℕ). safe runs ++ (codes "],\"table\":" ++ t)) (safe-json table last
    ∙ ap (λ (t : List ℕ). safe (json_text_of table) ++ (codes ",\"graph\":" ++ t)) (safe_after-before 125 refl refl refl [] zero graph (omega arith))))

-- pieces that are appended one by one
pub append-four : (o a b c d : List ℕ) → (((o ++ a) ++ b) ++ c) ++ d ≡ o ++ (a ++ (b ++ (c ++ d)))
append-four o a b c d = simp append_assoc refl

pub append-nine : (o a b c d e f g h i : List ℕ) → ((((((((o ++ a) ++ b) ++ c) ++ d) ++ e) ++ f) ++ g) ++ h) ++ i ≡ o ++ (a ++ (b ++ (c ++ (d ++ (e ++ (f ++ (g ++ (h ++ i))))))))
append-nine o a b c d e f g h i = simp append_assoc refl
