-- The files that names stand for, one name after another.
use Rattle.std.specs.{List.AllZip, Prelude.flat_map}
use Rattle.std.proofs.{Common.{◌≡◌, ℕ, ◌<◌, ◌≤◌, List, [], ◌∷◌, ◌++◌, length, inl, inr, refl, ap, sym, ◌∙◌, append-nil, arith}, lemmas.Grind.flat_map-append}
use Rattle.span_runs.specs.{Bytes, Folders.{Cuts, Puts, SourceFolders, StandsFor, StopsAtName, StopsListing}, declared.source.Name.{Name, TheVariants.{Standard, File}}}

module _ (folders : SourceFolders) (ending : Bytes) where
  -- The files of the first names are listed. If there is one at most, the column of files leaves out so much.
  pub record HasListed (names files : List Name) (cut : ℕ) : Type 0 where
    pub each : List (List Name)
    pub stand : AllZip (StandsFor folders ending) names each
    pub all : files ≡ flat_map (λ own. own) each
    pub cuts : length names ≤ 1 → Cuts folders ending names cut

  pub HasListed-none : HasListed [] [] 0
  HasListed-none = record { each = []; stand = tt; all = refl; cuts = λ few. refl }

  stand-push : (names : List Name) (each : List (List Name)) (name : Name) (own : List Name) → AllZip (StandsFor folders ending) names each → StandsFor folders ending name own →
      AllZip (StandsFor folders ending) (names ++ name ∷ []) (each ++ own ∷ [])
  stand-push [] [] name own stand is = (is, tt)
  stand-push [] (first ∷ each) name own stand is = absurd stand
  stand-push (first ∷ names) [] name own stand is = absurd stand
  stand-push (first ∷ names) (its ∷ each) name own stand is = (stand.0, stand-push names each name own stand.1 is)

  cuts-push : (names : List Name) (name : Name) (cut : ℕ) → Cuts folders ending (name ∷ []) cut → length (names ++ name ∷ []) ≤ 1 → Cuts folders ending (names ++ name ∷ []) cut
  cuts-push [] name cut cuts few = cuts
  cuts-push (first ∷ []) name cut cuts few = absurd (omega (arith, few))
  cuts-push (first ∷ second ∷ names) name cut cuts few = absurd (omega (arith, few))

  -- one more name
  pub HasListed-push : (names files more : List Name) (name : Name) (before cut : ℕ) → HasListed names files before → Puts folders ending name files more cut → HasListed (names ++ name ∷ []) more cut
  HasListed-push names files more name before cut listed puts = record {
    each = listed.each ++ puts.own ∷ [];
    stand = stand-push names listed.each name puts.own listed.stand puts.stands;
    all = puts.all ∙ (λ i. listed.all i ++ puts.own) ∙ ap (λ (own : List Name). flat_map (λ its. its) listed.each ++ own) (sym (append-nil puts.own)) ∙ sym (flat_map-append (λ its. its) listed.each (puts.own ∷ []));
    cuts = cuts-push names name cut puts.cuts;
  }

  -- this is said of the next name, behind those that are listed
  pub StopsListing-at : (names later : List Name) (name : Name) (each : List (List Name)) (lines : Bytes) → AllZip (StandsFor folders ending) names each → StopsAtName folders ending name lines →
      StopsListing folders ending (names ++ name ∷ later) lines
  StopsListing-at [] later name each lines stand stops = inl stops
  StopsListing-at (first ∷ names) later name [] lines stand stops = absurd stand
  StopsListing-at (first ∷ names) later name (own ∷ each) lines stand stops = inr ((own, stand.0), StopsListing-at names later name each lines stand.1 stops)

  -- of several names nothing is left out
  pub Cuts-several : (names : List Name) → 1 < length names → Cuts folders ending names 0
  Cuts-several [] many = absurd (omega (arith, many))
  Cuts-several (Standard ∷ names) many = refl
  Cuts-several (File path ∷ []) many = absurd (omega (arith, many))
  Cuts-several (File path ∷ next ∷ names) many = refl
