use Rattle.std.proofs.{Common.{◌∙◌, [], ◌∷◌, Some, None, ap, append-nil, arith, length, length-append, sym}, lemmas.Str.Pattern.split_parts}
use Rattle.span_request.proofs.ConditionParts.{Lacks-shorter, has_operator-lacks}
use Rattle.span_request.proofs.conditions.parts_of.Goals as goal

pub returns-in_err-front : goal.returns-in_err-front
returns-in_err-front c =
    let word = c.args.word.now in
    rw c.from_residual.ensures (has_operator-lacks word (split_parts 61 word None c.in_default.ensures.cases (omega arith)) (split_parts 126 word None c.in_err-front.ensures.cases (omega arith)))

pub returns-in_default : goal.returns-in_default
returns-in_default c =
    let word = c.args.word.now in
    let front = c.in_ok-front.front.now in
    let behind = c.in_ok-front.text.now in
    let none = split_parts 61 word None c.in_default.ensures.cases (omega arith) in
    let parts = split_parts 126 word (Some (c.in_ok-front.front, c.in_ok-front.text)) c.in_ok-front.ensures.cases (omega arith) in
    record {
      parts = parts.0;
      first = has_operator-lacks front (Lacks-shorter 61 front word (126 ∷ behind) [] (sym parts.0 ∙ sym (append-nil word)) (omega (arith, ap length parts.0, length-append front (126 ∷ behind))) none) parts.1;
    }

pub returns-in_default-split_once : goal.returns-in_default-split_once
returns-in_default-split_once c =
    let word = c.args.word.now in
    let front = c.in-Some.front.now in
    let behind = c.in-Some.text.now in
    let parts = split_parts 61 word (Some (c.in-Some.front, c.in-Some.text)) c.in-Some.ensures.cases (omega arith) in
    let none = split_parts 126 word None c.in_default-split_once.ensures.cases (omega arith) in
    record {
      parts = parts.0;
      first = has_operator-lacks front parts.1 (Lacks-shorter 126 front word (61 ∷ behind) [] (sym parts.0 ∙ sym (append-nil word)) (omega (arith, ap length parts.0, length-append front (61 ∷ behind))) none);
    }

pub returns-then-other-front : goal.returns-then-other-front
returns-then-other-front c =
    let word = c.args.word.now in
    let is = split_parts 61 word (Some (c.in-Some.front, c.in-Some.text)) c.in-Some.ensures.cases (omega arith) in
    let has = split_parts 126 word (Some (c.in-Some-split_once.other, c.in-Some-split_once.behind)) c.in-Some-split_once.ensures.cases (omega arith) in
    let other = c.in-Some-split_once.other.now in
    record {
      parts = has.0;
      first = has_operator-lacks other (Lacks-shorter 61 other c.in-Some.front.now (126 ∷ c.in-Some-split_once.behind.now) (61 ∷ c.in-Some.text.now) (sym has.0 ∙ is.0) (omega arith) is.1) has.1;
    }

pub returns-else-other-front : goal.returns-else-other-front
returns-else-other-front c =
    let word = c.args.word.now in
    let is = split_parts 61 word (Some (c.in-Some.front, c.in-Some.text)) c.in-Some.ensures.cases (omega arith) in
    let has = split_parts 126 word (Some (c.in-Some-split_once.other, c.in-Some-split_once.behind)) c.in-Some-split_once.ensures.cases (omega arith) in
    let front = c.in-Some.front.now in
    record {
      parts = is.0;
      first = has_operator-lacks front is.1 (Lacks-shorter 126 front c.in-Some-split_once.other.now (61 ∷ c.in-Some.text.now) (126 ∷ c.in-Some-split_once.behind.now) (sym is.0 ∙ has.0) (omega arith) has.1);
    }
