-- What one file gives alone is what it gives in turn.
use Rattle.std.proofs.Common.{◌≡◌, ℕ, zero, suc, List, [], ◌∷◌, ◌++◌, Bool, false, cond, map, Ok, Err, refl, ap, subst, ◌∙◌, append-nil}
use Rattle.span_collect.specs.{Format, doc, Entry, Op, Query, sequential, SinkState, TakesBytes, Account.{Document, telling}, InTurn.{AreSeparate, WritesAsInTurn, items_in, journal_in_turn, told_in_turn}, Run.{TextOf, WritesOneFile, end_by, journal_by}, Seals.{seals_of, with_seals}, declared.{files.Input.Input, settings.Settings.Settings}}

-- one file has nothing in common with another
pub AreSeparate-one : (format : Format) (file : Input) → AreSeparate format (file ∷ [])
AreSeparate-one format file zero zero one other apart at at' = absurd (apart refl)
AreSeparate-one format file zero (suc w) one other apart at at' = absurd cc
AreSeparate-one format file (suc v) w one other apart at at' = absurd cc

journal_by-items : (strict : Bool) (document : Document) → sequential strict (map (λ op. (1, op)) (telling (items_in document))) ≡ journal_by strict 1 document
journal_by-items strict (Ok items) = refl
journal_by-items strict (Err error) = refl

-- the journal of one file that is read in turn, without a query and unsealed, is the one that caller 1 makes of it
journal_in_turn-one : (settings : Settings) (file : Input) → settings.seal ≡ false → journal_in_turn settings (file ∷ []) [] ≡ journal_by settings.strict 1 (doc settings.format file.bytes.items)
journal_in_turn-one settings file unsealed =
    let told = told_in_turn settings.format settings.strict (file ∷ []) [] in
    let calls = map (λ (op : Op). (1, op)) (telling (items_in (doc settings.format file.bytes.items))) in
    ap (λ (seal : Bool). cond seal (with_seals settings.strict told (seals_of told)) told) unsealed
    ∙ ap (sequential settings.strict) (append-nil (calls ++ []) ∙ append-nil calls)
    ∙ journal_by-items settings.strict (doc settings.format file.bytes.items)

-- a text of one file that was written as in turn is that of what caller 1 tells
pub WritesOneFile-in_turn : (text : TextOf) (files : List Input) (asks : List Query) (settings : Settings) (status : ℕ) (old new : SinkState) →
    WritesAsInTurn text files asks settings status old new → WritesOneFile text files asks settings status old new
WritesOneFile-in_turn text files asks settings status old new in_turn below unsealed file one none =
    let alone : WritesAsInTurn text (file ∷ []) [] settings status old new =
    subst (λ qs. WritesAsInTurn text (file ∷ []) qs settings status old new) none (subst (λ fs. WritesAsInTurn text fs asks settings status old new) one in_turn) in
    subst (λ (journal : List Entry). TakesBytes old new (text (end_by 1 (doc settings.format file.bytes.items) ∷ []) journal)) (journal_in_turn-one settings file unsealed) (alone (AreSeparate-one settings.format file) below)
