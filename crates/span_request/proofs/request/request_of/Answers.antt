use Rattle.std.proofs.Common.{List, inr, subst}
use Rattle.std.proofs.lemmas.Result.{IfOk-weaker}
use Rattle.span_options.specs.declared.parsing.Parsed.TheVariants as parsed
use Rattle.span_request.specs.{Bytes, Options, ParsesTo, Request.{AsksFor, IsOf}}
use Rattle.span_request.specs.declared.tasks.Request.{Request, TheVariants.{Refuse, Run, Show}}
use Rattle.span_request.proofs.request.request_of.Goals as goal

-- what options ask for, the words do
asks : (words : List Bytes) (options : Options) → ParsesTo words (parsed.Options options) → (request : Request) → IsOf options request → AsksFor words request
asks words options parses (Run task files) is = (options, parses, is.0, is.1)
asks words options parses (Show text) is = absurd is
asks words options parses (Refuse text) is = inr (options, parses, is)

pub returns-in-Options : goal.returns-in-Options
returns-in-Options c = IfOk-weaker c.request_by.result _ _ (asks c.args.words.items c.in-Options.options
    (subst (λ words. ParsesTo words (parsed.Options c.in-Options.options)) c.as_slice.ensures.value
    (subst (ParsesTo c.as_slice.result.now) c.in-Options.is c.in_ok-options.ensures))) c.request_by.ensures
