use Rattle.std.proofs.{Common.{◌≡◌, ◌++◌, refl, ap, ap₂, ◌∙◌}, lemmas.Result.IfOk-weaker}
use Rattle.json.specs.Lex.{tokens}
use Rattle.span_read.specs.{Document.doc_of_document, Ending.ended, Tokens.data_of_all}
use Rattle.span_read.proofs.Cutting.{doc_of_document-divided}
use Rattle.span_read.proofs.parts.read_divided.Goals as goal

pub returns : goal.returns
returns g c =
    let front = c.in-Some.front.now in
    let middle = c.in-Some-last_cut.middle.now in
    let rest = c.in-Some-last_cut.rest.now in
    let all = ap₂ (λ ts us. data_of_all 127 (ended c.args.bracket (ts ++ (tokens middle ++ us)))) c.in_ok-tokens.ensures c.in_ok-rest.ensures.ok in
    IfOk-weaker c.read_around.result _ _ (λ found is some.
    let whole : found ≡ doc_of_document c.args.format (data_of_all 127 (ended c.args.bracket (tokens front ++ (tokens middle ++ tokens rest)))) = is ∙ ap (doc_of_document c.args.format) all in
    whole ∙ ap (doc_of_document c.args.format) (doc_of_document-divided c.args.format c.args.bracket c.args.text.now front c.in-Some.others.now middle rest c.in-Some.ensures c.in-Some-last_cut.ensures c.in_ok-items.ensures.good _ refl (λ none. some (whole ∙ none)))) c.read_around.ensures
