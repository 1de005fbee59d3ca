-- A page of runs, with one run more.
use Rattle.std.specs.List.{join_with_byte}
use Rattle.std.proofs.Common.{◌≡◌, ℕ, zero, Bool, true, false, List, [], ◌∷◌, ◌++◌, codes, Option, Some, None, refl, sym, ap, subst, ◌∙◌, append_assoc, append-nil, arith}
use Rattle.span_page.specs.{Row, Unit, SpanColumn, json_text_of, Bounds.IsTooLong, Data.most_frames, Graph.rows_json, Page.{text_before, text_behind}, Runs.{Begins, BegunPage, Holds, ShownRun, TakesRun, are_some, begun_text, page_of_runs, left_behind_run, left_behind_runs, run_json, runs_json}, Safe.{safe, safe_byte}}
use Rattle.span_page.proofs.{LongTexts.{long-append, long-appends, long-behind, long-beginning, safe-long}, SafePieces.{safe_after-before, safe-runs}}

-- a comma stands for itself
safe-comma : (more : List ℕ) → safe (44 ∷ more) ≡ 44 ∷ safe more
unfolding safe_byte
safe-comma more = refl

-- one more text behind others
join_with_byte-push : (first : List ℕ) (texts : List (List ℕ)) (text : List ℕ) → join_with_byte 44 ((first ∷ texts) ++ text ∷ []) ≡ join_with_byte 44 (first ∷ texts) ++ 44 ∷ text
join_with_byte-push first [] text = refl
join_with_byte-push first (next ∷ texts) text =
    ap (λ (t : List ℕ). first ++ 44 ∷ t) (join_with_byte-push next texts text) ∙ sym (append_assoc first (44 ∷ join_with_byte 44 (next ∷ texts)) (44 ∷ text))

-- pieces that are appended one by one
append-page : (h k s a b c d e t : List ℕ) → ((((((h ++ (k ++ s)) ++ a) ++ b) ++ c) ++ d) ++ e) ++ t ≡ h ++ ((k ++ (s ++ (a ++ (b ++ (c ++ (d ++ e)))))) ++ t)
append-page h k s a b c d e t = simp append_assoc refl

-- what is before the data of one more run
abbrev pub comma : Bool → List ℕ
comma true = 44 ∷ []
comma false = []

module _ (unit : Unit) (labels : List SpanColumn) where
  runs_json-push : (left : ℕ) (runs : List ShownRun) (run : ShownRun) → runs_json unit labels left (runs ++ run ∷ []) ≡ runs_json unit labels left runs ++ run_json unit labels (left_behind_runs labels left runs) run ∷ []
  runs_json-push left [] run = refl
  runs_json-push left (first ∷ runs) run = ap (λ (texts : List (List ℕ)). run_json unit labels left first ∷ texts) (runs_json-push (left_behind_run labels left first) runs run)

  left_behind_runs-push : (left : ℕ) (runs : List ShownRun) (run : ShownRun) → left_behind_runs labels left (runs ++ run ∷ []) ≡ left_behind_run labels (left_behind_runs labels left runs) run
  left_behind_runs-push left [] run = refl
  left_behind_runs-push left (first ∷ runs) run = left_behind_runs-push (left_behind_run labels left first) runs run

  -- the text with one more run
  pub begun_text-push : (runs : List ShownRun) (run : ShownRun) →
      (begun_text unit labels runs ++ comma (are_some runs)) ++ safe (run_json unit labels (left_behind_runs labels most_frames runs) run) ≡ begun_text unit labels (runs ++ run ∷ [])
  begun_text-push [] run =
      ap (λ (t : List ℕ). t ++ safe (run_json unit labels most_frames run)) (append-nil (text_before ++ codes "{\"runs\":["))
      ∙ append_assoc text_before (codes "{\"runs\":[") (safe (run_json unit labels most_frames run))
  begun_text-push (first ∷ runs) run =
      let more = run_json unit labels (left_behind_runs labels most_frames (first ∷ runs)) run in
      let others = runs_json unit labels (left_behind_run labels most_frames first) runs in
      let before = join_with_byte 44 (run_json unit labels most_frames first ∷ others) in
      append_assoc (text_before ++ (codes "{\"runs\":[" ++ safe before)) (44 ∷ []) (safe more)
      ∙ append_assoc text_before (codes "{\"runs\":[" ++ safe before) (44 ∷ safe more)
      ∙ ap (λ (t : List ℕ). text_before ++ (codes "{\"runs\":[" ++ t)) (
      ap (λ (t : List ℕ). safe before ++ t) (sym (safe-comma more))
      ∙ sym (safe_after-before 44 refl refl refl more zero before (omega arith))
      ∙ ap safe (sym (join_with_byte-push (run_json unit labels most_frames first) others more)
      ∙ ap (join_with_byte 44) (sym (runs_json-push most_frames (first ∷ runs) run))))

  -- some are there
  many : (runs : List ShownRun) (run : ShownRun) → are_some (runs ++ run ∷ []) ≡ true
  many [] run = refl
  many (first ∷ runs) run = refl

  -- the text of a page with one more run
  pub begun_text-grown : (runs : List ShownRun) (run : ShownRun) (old : BegunPage) → Begins unit labels runs old →
      (old.text ++ comma old.has_run) ++ safe (run_json unit labels old.left run) ≡ begun_text unit labels (runs ++ run ∷ [])
  begun_text-grown runs run old begins = (λ i. (begins.text i ++ comma (begins.some i)) ++ safe (run_json unit labels (begins.left i) run)) ∙ begun_text-push runs run

  pub Begins-push : (runs : List ShownRun) (run : ShownRun) (old new : BegunPage) → Begins unit labels runs old →
      new.text ≡ (old.text ++ comma old.has_run) ++ safe (run_json unit labels old.left run) → new.left ≡ left_behind_run labels old.left run → new.has_run ≡ true → Begins unit labels (runs ++ run ∷ []) new
  Begins-push runs run old new begins text left some = record {
    text = text ∙ begun_text-grown runs run old begins;
    left = left ∙ ap (λ n. left_behind_run labels n run) begins.left ∙ sym (left_behind_runs-push most_frames runs run);
    some = some ∙ sym (many runs run);
  }

  -- a page that is too long is so with one more run
  pub TakesRun-none : (run : ShownRun) → TakesRun unit labels run None None
  TakesRun-none run runs long =
      let more = safe (run_json unit labels (left_behind_runs labels most_frames runs) run) in
      long-beginning (begun_text unit labels runs) (comma (are_some runs) ++ more) (begun_text unit labels (runs ++ run ∷ []))
      (sym (append_assoc (begun_text unit labels runs) (comma (are_some runs)) more) ∙ begun_text-push runs run) long

  -- a run that has the same data, and leaves as many frames, may stand for the last
  begun_text-alike : (runs : List ShownRun) (one other : ShownRun) → ((left : ℕ) → run_json unit labels left one ≡ run_json unit labels left other) →
      begun_text unit labels (runs ++ one ∷ []) ≡ begun_text unit labels (runs ++ other ∷ [])
  begun_text-alike runs one other same = ap (λ (texts : List (List ℕ)). text_before ++ (codes "{\"runs\":[" ++ safe (join_with_byte 44 texts)))
      (runs_json-push most_frames runs one ∙ ap (λ (text : List ℕ). runs_json unit labels most_frames runs ++ text ∷ []) (same (left_behind_runs labels most_frames runs)) ∙ sym (runs_json-push most_frames runs other))

  pub Holds-alike : (runs : List ShownRun) (one other : ShownRun) (page : Option BegunPage) → ((left : ℕ) → run_json unit labels left one ≡ run_json unit labels left other) →
      ((left : ℕ) → left_behind_run labels left one ≡ left_behind_run labels left other) → Holds unit labels (runs ++ one ∷ []) page → Holds unit labels (runs ++ other ∷ []) page
  Holds-alike runs one other None same behind long = subst IsTooLong (begun_text-alike runs one other same) long
  Holds-alike runs one other (Some page) same behind begins = record {
    text = begins.text ∙ begun_text-alike runs one other same;
    left = begins.left ∙ left_behind_runs-push most_frames runs one ∙ behind (left_behind_runs labels most_frames runs) ∙ sym (left_behind_runs-push most_frames runs other);
    some = begins.some ∙ many runs one ∙ sym (many runs other);
  }

  -- the text is ended by a table, and by the graph of stacks that were added
  module _ (table : List ℕ) (stacks : List Row) (runs : List ShownRun) where
    abbrev pub with_table : List ℕ
    with_table = (begun_text unit labels runs ++ codes "],\"table\":") ++ safe (json_text_of table)

    abbrev pub with_graph : List ℕ
    with_graph = (with_table ++ codes ",\"graph\":") ++ safe (rows_json stacks)

    pub page_of_runs-begun : (with_graph ++ codes "}") ++ text_behind ≡ page_of_runs unit labels table stacks runs
    unfolding page_of_runs
    page_of_runs-begun =
        let texts = runs_json unit labels most_frames runs in
        append-page text_before (codes "{\"runs\":[") (safe (join_with_byte 44 texts)) (codes "],\"table\":") (safe (json_text_of table)) (codes ",\"graph\":") (safe (rows_json stacks)) (codes "}") text_behind
        ∙ ap (λ (t : List ℕ). text_before ++ (t ++ text_behind)) (sym (safe-runs texts table (rows_json stacks)))

    -- it is too long if so much of it is
    pub page_of_runs-long_graph : IsTooLong with_graph → IsTooLong (page_of_runs unit labels table stacks runs)
    page_of_runs-long_graph long = subst IsTooLong page_of_runs-begun (long-append (with_graph ++ codes "}") text_behind (long-append with_graph (codes "}") long))

    pub page_of_runs-long_rows : IsTooLong (rows_json stacks) → IsTooLong (page_of_runs unit labels table stacks runs)
    page_of_runs-long_rows long = page_of_runs-long_graph (long-behind (with_table ++ codes ",\"graph\":") (safe (rows_json stacks)) (safe-long (rows_json stacks) long))

    pub page_of_runs-long_table : IsTooLong with_table → IsTooLong (page_of_runs unit labels table stacks runs)
    page_of_runs-long_table long = subst IsTooLong page_of_runs-begun (long-appends with_table (codes ",\"graph\":") (safe (rows_json stacks)) (codes "}") text_behind long)

    pub page_of_runs-long : IsTooLong (begun_text unit labels runs) → IsTooLong (page_of_runs unit labels table stacks runs)
    page_of_runs-long long = page_of_runs-long_table (long-append (begun_text unit labels runs ++ codes "],\"table\":") (safe (json_text_of table)) (long-append (begun_text unit labels runs) (codes "],\"table\":") long))
