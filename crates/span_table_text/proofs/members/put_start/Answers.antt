use Rattle.std.proofs.Common.{[], ◌∷◌, ap, map, subst, codes, decimal}
use Rattle.json.specs.Token.{begin_array, begin_object, key, number, string}
use Rattle.span_table_text.specs.{Schema, Tokens.{Appends, list_tokens, of_tokens, unit_tokens}}
use Rattle.span_table_text.proofs.Written.{Appends-append, Follow-append, Follow-one, Follow-same, columns-ended}
use Rattle.span_table_text.proofs.members.put_start.Goals as goal

pub returns : goal.returns
returns c =
    let schema = c.args.schema.now in
    let names = map string c.args.names.now in
    let version = Follow-append (Follow-one c.in_ok-begin_object.ensures) (Follow-append (Follow-one c.in_ok-key.ensures) (Follow-one c.in_ok-u64.ensures)) in
    let columns = Follow-append (Follow-one c.in_ok-key-2.ensures) (Follow-append (Follow-one c.in_ok-begin_array.ensures) (Follow-append c.in_ok-put_names.ensures (Follow-one c.in_ok-end_array.ensures))) in
    let kind = Follow-same (ap (λ (s : Schema). of_tokens s.of) c.schema.view_is) c.in_ok-put_of.ensures in
    let all = Follow-append version (Follow-append kind (Follow-append c.in_ok-put_unit.ensures columns)) in
    rw (← c.requires) (subst (λ l. Appends c.put_list.result c.args.writer.now c.put_list.new.writer (begin_object ∷ key (codes "tracebook") ∷ number (decimal 1) ∷ l))
    (columns-ended (of_tokens schema.of) (unit_tokens c.args.unit) names (key (codes "columns")) begin_array (list_tokens schema []))
    (Appends-append c.put_list.result c.put_list.new.writer (list_tokens schema []) all c.put_list.ensures))
