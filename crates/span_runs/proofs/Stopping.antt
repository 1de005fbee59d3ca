-- What is said where something stopped among files, with more files after them or before them.
use Rattle.std.specs.Prelude.{flat_map}
use Rattle.std.proofs.{Common.{◌≡◌, ℕ, suc, ◌+◌, ◌<◌, ◌≤◌, ◌^◌, ◌⊎◌, List, [], ◌∷◌, ◌++◌, length, map, take, drop, inl, inr, refl, ap, sym, subst, ◌∙◌, append_assoc, arith}, Math.ListN.get_or, lemmas.{Grind.flat_map-append, List.{length-append, length-map, Elements.All-append}}}
use Rattle.span_runs.specs.{Bytes, FileCount, number_of, IsHint, run_line, Settings, Run, Apart.{GathersFiles, IsAccounted, run_alone}, Runs.{shorter, shortened}, Said.refusal_line, Source.SourceBytes, Stops.{HaltsAfter, IsHinted, IsTooMany, OfStop, StopsAfter, StopsAmong, StopsAtFirst}, declared.{gathered.Gathered.Gathered, source.Name.Name, stop.Halt.{Halt, TheVariants.{Stopped, Memory}}}}
use Rattle.span_runs.proofs.GatheredFiles.{AreInputs-append, around-name, length-gathered}

-- what is said means more
pub OfStop-weaker : (Says Other : Bytes → Type 0) → ((lines : Bytes) → Says lines → Other lines) → (halt : Halt) → OfStop Says halt → OfStop Other halt
OfStop-weaker Says Other weaker (Stopped stop) says = (weaker stop.lines.items says.0, says.1)
OfStop-weaker Says Other weaker Memory says = tt

-- lines before it mean more
pub OfStop-after : (Says Other : Bytes → Type 0) (lines : Bytes) → ((own : Bytes) → Says own → Other (lines ++ own)) → (old new : Halt) → HaltsAfter lines old new → OfStop Says old → OfStop Other new
OfStop-after Says Other lines weaker (Stopped old) (Stopped new) after says = (subst Other (sym after.0) (weaker old.lines.items says.0), subst IsHint (sym (ap (λ hints. hints.items) after.1)) says.1)
OfStop-after Says Other lines weaker (Stopped old) Memory after says = tt
OfStop-after Says Other lines weaker Memory (Stopped new) after says = absurd after
OfStop-after Says Other lines weaker Memory Memory after says = tt

-- a hint changes nothing of what is said
pub OfStop-hinted : (Says : Bytes → Type 0) → (old new : Halt) → IsHinted old new → OfStop Says old → OfStop Says new
OfStop-hinted Says (Stopped old) (Stopped new) hinted says = (subst (λ lines. Says lines.items) (sym hinted.0) says.0, hinted.1 says.1)
OfStop-hinted Says (Stopped old) Memory hinted says = tt
OfStop-hinted Says Memory (Stopped new) hinted says = absurd hinted
OfStop-hinted Says Memory Memory hinted says = tt

-- as many runs are too many where names are shorter
pub IsTooMany-shortened : {T : Type 0} (cut : ℕ) (ComeTo : List Run → T → Type 0) (old : T) (more : ℕ) (before lines : Bytes) → IsTooMany ComeTo old more before lines → IsTooMany (shortened cut ComeTo) old more before lines
IsTooMany-shortened cut ComeTo old more before lines many = (many.0, λ runs have. omega (arith, many.1 (map (shorter cut) runs) have, length-map runs (shorter cut)))

module _ (source : SourceBytes) (settings : Settings) where
  -- this stops at the first of these files, or there are too many of all
  abbrev Causes : List Name → List Name → Bytes → Type 0
  Causes names later own = StopsAtFirst source settings later own ⊎ ((2 ^ 32 ≤ length names) × (own ≡ run_line (number_of FileCount)))

  -- behind files that were gathered
  StopsAmong-behind : {T : Type 0} (done later : List Name) (ComeTo : List Run → T → Type 0) (old : Gathered T) (own lines : Bytes) → GathersFiles source done settings ComeTo old → lines ≡ old.said.lines.items ++ own →
      Causes (done ++ later) later own → StopsAmong source settings (done ++ later) lines
  StopsAmong-behind done later ComeTo old own lines gathered same cause = record {
    done = done;
    later = later;
    split = refl;
    files = gathered.files;
    read = gathered.read;
    accounted = gathered.accounted;
    own = own;
    said = same ∙ ap (λ (before : Bytes). before ++ own) gathered.says.lines;
    cause = cause;
  }

  -- at the file of this place, which was not added to those before it
  pub StopsAmong-at : {T : Type 0} (names : List Name) (place : ℕ) (name : Name) (ComeTo : List Run → T → Type 0) (old : Gathered T) → place < length names → name ≡ get_or names place name →
      GathersFiles source (take place names) settings ComeTo old → (lines : Bytes) →
      StopsAfter source name settings ComeTo old lines → StopsAmong source settings names lines
  StopsAmong-at names place name ComeTo old low is gathered lines stops = subst (λ (ns : List Name). StopsAmong source settings ns lines) (around-name names place name low is) (by_cause stops)
    where
      by_cause : StopsAfter source name settings ComeTo old lines → StopsAmong source settings (take place names ++ name ∷ drop (suc place) names) lines
      by_cause (inl (own, stops, same)) = StopsAmong-behind (take place names) (name ∷ drop (suc place) names) ComeTo old own lines gathered same (inl stops)
      by_cause (inr (same, many)) =
          let runs = map (run_alone settings) gathered.files in
          let least : 2 ^ 32 ≤ length runs + 1 = many runs gathered.runs in
          let counted : length runs ≡ length (take place names) = length-gathered source (take place names) settings gathered.files gathered.read in
          let long : length (take place names ++ name ∷ drop (suc place) names) ≡ length (take place names) + length (name ∷ drop (suc place) names) = length-append (take place names) (name ∷ drop (suc place) names) in
          StopsAmong-behind (take place names) (name ∷ drop (suc place) names) ComeTo old (run_line (number_of FileCount)) lines gathered same (inr (omega arith, refl))

  -- where the runs of two groups of files are too many to be joined
  pub StopsAmong-joined : {T : Type 0} (names more : List Name) (ComeTo : List Run → T → Type 0) (first second : Gathered T) → GathersFiles source names settings ComeTo first → GathersFiles source more settings ComeTo second →
      (lines : Bytes) → lines ≡ first.said.lines.items ++ run_line (number_of FileCount) → ((runs others : List Run) → ComeTo runs first.runs → ComeTo others second.runs → 2 ^ 32 ≤ length runs + length others) →
      StopsAmong source settings (names ++ more) lines
  StopsAmong-joined names more ComeTo first second one other lines same many =
      let runs = map (run_alone settings) one.files in
      let others = map (run_alone settings) other.files in
      let least : 2 ^ 32 ≤ length runs + length others = many runs others one.runs other.runs in
      let counted : length runs ≡ length names = length-gathered source names settings one.files one.read in
      let counted_others : length others ≡ length more = length-gathered source more settings other.files other.read in
      let long : length (names ++ more) ≡ length names + length more = length-append names more in
      StopsAmong-behind names more ComeTo first (run_line (number_of FileCount)) lines one same (inr (omega arith, refl))

  Causes-append : (names later more : List Name) (own : Bytes) → Causes names later own → Causes (names ++ more) (later ++ more) own
  Causes-append names [] more own (inl stops) = absurd stops
  Causes-append names (name ∷ later) more own (inl stops) = inl stops
  Causes-append names later more own (inr (many, is)) = inr (omega (arith, length-append names more), is)

  -- with more files after them
  pub StopsAmong-append : (names more : List Name) (lines : Bytes) → StopsAmong source settings names lines → StopsAmong source settings (names ++ more) lines
  StopsAmong-append names more lines stops = record {
    done = stops.done;
    later = stops.later ++ more;
    split = ap (λ (ns : List Name). ns ++ more) stops.split ∙ append_assoc stops.done stops.later more;
    files = stops.files;
    read = stops.read;
    accounted = stops.accounted;
    own = stops.own;
    said = stops.said;
    cause = Causes-append names stops.later more stops.own stops.cause;
  }

  Causes-after : (names more later : List Name) (own : Bytes) → Causes more later own → Causes (names ++ more) later own
  Causes-after names more later own (inl stops) = inl stops
  Causes-after names more later own (inr (many, is)) = inr (omega (arith, length-append names more), is)

  -- with files before them that were gathered
  pub StopsAmong-after : {T : Type 0} (names more : List Name) (ComeTo : List Run → T → Type 0) (first : Gathered T) → GathersFiles source names settings ComeTo first → (lines : Bytes) →
      StopsAmong source settings more lines → StopsAmong source settings (names ++ more) (first.said.lines.items ++ lines)
  StopsAmong-after names more ComeTo first gathered lines stops = record {
    done = names ++ stops.done;
    later = stops.later;
    split = ap (λ (ns : List Name). names ++ ns) stops.split ∙ sym (append_assoc names stops.done stops.later);
    files = gathered.files ++ stops.files;
    read = AreInputs-append source settings names stops.done gathered.files stops.files gathered.read stops.read;
    accounted = All-append (IsAccounted settings) gathered.files stops.files gathered.accounted stops.accounted;
    own = stops.own;
    said =
        (λ i. gathered.says.lines i ++ stops.said i) ∙ sym (append_assoc (flat_map (refusal_line settings.format) gathered.files) (flat_map (refusal_line settings.format) stops.files) stops.own)
        ∙ ap (λ (before : Bytes). before ++ stops.own) (sym (flat_map-append (refusal_line settings.format) gathered.files stops.files));
    cause = Causes-after names more stops.later stops.own stops.cause;
  }
