use Rattle.std.specs.List.{join_with_byte}
use Rattle.std.proofs.Common.{◌≡◌, ◌++◌, ◌∷◌, [], ℕ, Bor, List, map, ap, ap₂, ◌∙◌}
use Rattle.span_journal.proofs.Sorted.{map-map}
use Rattle.span_page.specs.{Bytes, Input, json_text_of, Data.names_json}
use Rattle.span_page.proofs.data.names_text.Goals as goal

pub returns : goal.returns
unfolding names_json lib.Utf8.encode
returns c =
    let name_of = λ (file : Input). file.name in
    let names : map (λ (name : Bor Bytes). name.now) c.deref.result.now ≡ map name_of c.args.files.now = ap (map (λ (name : Bor Bytes). name.now)) c.deref.ensures.value ∙ c.in_ok-names.ensures in
    let texts = ap (map json_text_of) names ∙ map-map json_text_of name_of c.args.files.now in
    let put = c.in_ok-put_names.ensures ∙ ap₂ (λ (begun : List ℕ) (texts : List (List ℕ)). begun ++ join_with_byte 44 texts) c.in_ok-out.ensures.ok texts in
    c.in_ok-push.ensures.bytes ∙ ap (λ text. text ++ 93 ∷ []) put
