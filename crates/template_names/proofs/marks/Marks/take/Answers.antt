use Rattle.std.specs.List.{slice_range}
use Rattle.std.proofs.{Common.{◌∷◌, ◌+◌, drop, sym, ap, ap₂, ◌∙◌}, lemmas.List.take_rest}
use Rattle.template_names.specs.Marks.{marks_behind, symbol_length}
use Rattle.template_names.proofs.Taking.{marks_behind-on, next_word}
use Rattle.template_names.proofs.marks.Marks.take.Goals as goal

pub returns-else-not-is_word_byte : goal.returns-else-not-is_word_byte
returns-else-not-is_word_byte c =
    let text = c.self.inside.text.now in
    let at = c.self.inside.at in
    let word = c.self.inside.word in
    let look = c.in_ok-byte.ensures.lookup in
    let symbol = c.symbol_length-symbol.ensures ∙ ap (symbol_length c.self.inside.symbol (slice_range text word at)) (take_rest text at) in
    sym c.self.view_is
    ∙ marks_behind-on text word at c.self.inside.symbol c.symbol_length-symbol.result word c.in_ok-byte.field-0.now c.self.invariant.0 look.3.0 (look.3.1 0) symbol
    (ap (λ goes_on. next_word goes_on word at) c.if-not-is_word_byte.ensures)
    ∙ ap₂ (λ mark symbol. mark ∷ marks_behind symbol (slice_range text word (at + 1)) (drop (at + 1) text)) (sym c.of-mark.ensures) (sym c.saturating_sub-self-inside.ensures)
