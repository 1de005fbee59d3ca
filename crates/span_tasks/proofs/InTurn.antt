-- What is printed of separate files is what they give where they are read in turn.
use Rattle.std.proofs.Common.{◌≡◌, ◌<◌, ℕ, Bool, true, false, cond, List, [], ◌∷◌, ◌++◌, map, refl, ap, subst, ◌∙◌}
use Rattle.span_report.proofs.{SameReports.report_of-alike, StackLemmas.SameStacks.stacks-alike}
use Rattle.span_collect.proofs.InTurn.Accounted.{AreAlike-in_turn, end_lines-in_turn, refusals_of-in_turn}
use Rattle.span_page.proofs.SamePages.{page_of-alike}
use Rattle.span_runs.proofs.InTurn.{table_of_run-in_turn}
use Rattle.span_journal.specs.{Legal.{IsLegal, journal_after, next_entry, sequential}, Topics.AreAlike, declared.entry.Op.Op}
use Rattle.span_journal.proofs.LegalJournals.{sequential-legal}
use Rattle.span_collect.specs.{InTurn.calls_in_turn, Seals.{seals_of, with_seals}}
use Rattle.span_request.specs.declared.views.View.{View, TheVariants.{Folded, Page, Refusals, Report}}
use Rattle.span_tasks.specs.{Entry, FileEnd, Input, Asked, Sealing, Settings, AreSeparate, ends_from, journal_in_turn, text_in_turn, status_of, SealedAccount, page_of, json_of, narrowed, SpanTable, Summed.summed_of, Together.{page_table, text_of}}

module _ (files : List Input) (settings : Settings) (ends : List FileEnd) (asked : Asked) (sealing : Sealing) (journal : List Entry)
    (account : SealedAccount files [] settings ends asked sealing journal) (separate : AreSeparate settings.format files) (below : status_of ends asked sealing < 2) where
  alike : AreAlike journal (journal_in_turn settings files [])
  alike = AreAlike-in_turn files [] settings ends asked sealing journal account separate below

  -- each view
  pub text_of-in_turn : (view : View) → text_of settings.format.unit view files ends journal ≡ text_in_turn (text_of settings.format.unit view files) files [] settings
  text_of-in_turn (Report warns) = report_of-alike settings.format.unit journal (journal_in_turn settings files []) alike
  text_of-in_turn Refusals = refusals_of-in_turn files [] settings ends asked sealing journal account separate below
  text_of-in_turn (Folded labels) = (stacks-alike journal (journal_in_turn settings files []) alike).text labels.items
  text_of-in_turn (Page view) =
      page_of-alike settings.format.unit view.labels.items (json_of settings.format.unit view.options.shown (page_table view files ends journal)) files ends (ends_from settings.format 1 files) journal (journal_in_turn settings files []) alike
      (refusals_of-in_turn files [] settings ends asked sealing journal account separate below) (end_lines-in_turn files [] settings ends asked sealing journal account separate below)
      ∙ ap (λ (table : SpanTable). page_of settings.format.unit view.labels.items (json_of settings.format.unit view.options.shown (narrowed view.options.narrowing table)) files (ends_from settings.format 1 files) (journal_in_turn settings files []))
      (table_of_run-in_turn files settings ends asked sealing journal account separate below (summed_of view.options))

-- the calls of one journal, and then more
journal_after-append : (strict : Bool) (journal : List Entry) (calls others : List (ℕ × Op)) → journal_after strict journal (calls ++ others) ≡ journal_after strict (journal_after strict journal calls) others
journal_after-append strict journal [] others = refl
journal_after-append strict journal (call ∷ calls) others = journal_after-append strict (journal ++ next_entry strict journal call.0 call.1 ∷ []) calls others

-- the journal of files that are read in turn is legal
pub journal_in_turn-legal : (settings : Settings) (files : List Input) → IsLegal settings.strict (journal_in_turn settings files [])
journal_in_turn-legal settings files = by settings.seal
  where
    calls : List (ℕ × Op)
    calls = calls_in_turn settings.format files []

    told : List Entry
    told = sequential settings.strict calls

    seals : List (ℕ × Op)
    seals = map (λ seal. (0, seal)) (seals_of told)

    by : (seal : Bool) → IsLegal settings.strict (cond seal (with_seals settings.strict told (seals_of told)) told)
    by true = subst (IsLegal settings.strict) (journal_after-append settings.strict [] calls seals) (sequential-legal settings.strict (calls ++ seals)).0
    by false = (sequential-legal settings.strict calls).0
