use Rattle.std.proofs.Common.{◌≡◌, ◌-◌, ◌++◌, List, Option, Some, None, map, refl, sym, ap, ◌∙◌, subst₂, arith}
use Rattle.json.specs.{Lex.tokens}
use Rattle.serde_json.specs.Data.{Data}
use Rattle.span_read.specs.{Divided.{left_of, left_with}, Document.doc_of_elements, Element.item_of_data, Elements.{Adds}, Ending.ended, Parts.AreElements, Tokens.{TakesElements}, declared.{divided.Middle.Middle, elements.End.{End, TheVariants.{Bracket, Text}}}}
use Rattle.span_read.proofs.{Bracket.Turns.TakesElements-up_to, Collected.{Adds-both, doc_of_elements-collected}, Grammar.data_at-too_deep_array, Middles.{TakesUpTo-joined, left_with-array, left_with-whole}}
use Rattle.span_read.proofs.document.collect_elements.Goals as goal

other_end : (end : End) → (end ≡ Text → ⊥) → end ≡ Bracket
other_end Bracket other = refl
other_end Text other = absurd (other refl)

no_middle : (m : Option Middle) → ((x : Middle) → m ≡ Some x → ⊥) → m ≡ None
no_middle None other = refl
no_middle (Some x) other = absurd (other x refl)

pub returns-then-depth-eq0-clause-refused : goal.returns-then-depth-eq0-clause-refused
returns-then-depth-eq0-clause-refused c = λ whole no b. data_at-too_deep_array c.args.depth (ended b (left_of c.args.text.now)) c.if-depth-eq0.true

pub returns-in_default-clause-found : goal.returns-in_default-clause-found
returns-in_default-clause-found c =
    let taken = rw (other_end c.in_ok-end.end c.in_default.not-Text) at c.in_ok-end.ensures.taken in
    left_with-array c.args.text.now.middle c.args.depth _ _ _
    (TakesElements-up_to Bracket c.args.depth (omega arith) _ c.take.new.tokens.reader _ _ (λ ds added. c.found.ensures ∙ doc_of_elements-collected c.args.format c.new-elements.result c.take.new.self ds c.new-elements.ensures.items c.new-elements.ensures.few added) taken)

pub returns-in_default-take-clause-found : goal.returns-in_default-take-clause-found
returns-in_default-take-clause-found c =
    let taken = rw c.in-Text.is at c.in_ok-end.ensures.taken in
    let whole = left_with-whole c.args.text.now.middle c.args.text.now.tokens.reader (no_middle _ (λ x is. c.in_default-take.not-Some x (c.take-2.ensures.value ∙ is))) in
    let after = left_with-whole c.take-2.new.self c.take.new.tokens.reader c.take-2.ensures.after in
    subst₂ (λ old new. TakesElements Text c.args.depth old new (λ ds. c.found-in_default-take.result ≡ doc_of_elements c.args.format (Some ds))) (sym whole) (sym after)
    (TakesElements-up_to Text c.args.depth (omega arith) _ c.take.new.tokens.reader _ _ (λ ds added. c.found-in_default-take.ensures ∙ doc_of_elements-collected c.args.format c.new-elements.result c.take.new.self ds c.new-elements.ensures.items c.new-elements.ensures.few added) taken)

pub returns-clause-found : goal.returns-clause-found
returns-clause-found c =
    let format = c.args.format in
    let m = c.in-Some.middle in
    let first = rw c.in-Text.is at c.in_ok-end.ensures.taken in
    let is : c.args.text.now.middle ≡ Some m = sym c.take-2.ensures.value ∙ c.in-Some.is in
    let read = rw is at c.requires in
    let unit : m.unit ≡ format.unit = grind arith in
    let depth : m.depth ≡ c.args.depth - 1 = omega (arith, c.if-middle-depth.false) in
    let middle : AreElements format.unit (c.args.depth - 1) m.text.now m.items = subst₂ (λ u d. AreElements u d m.text.now m.items) unit depth read in
    let after = left_with-whole c.take-2.new.self c.take-3.new.tokens.reader c.take-2.ensures.after in
    let all : (cs ms bs : List Data) → Adds format c.new-elements.result c.take.new.self cs → map (item_of_data format.unit) ms ≡ m.items → Adds format c.add.new.self c.take-3.new.self bs → Adds format c.new-elements.result c.take-3.new.self (cs ++ (ms ++ bs)) =
    λ cs ms bs p q r. Adds-both format _ c.take.new.self _ cs (ms ++ bs) p (Adds-both format _ c.add.new.self _ ms bs (c.in_ok-add.ensures ms q) r) in
    let joined = TakesUpTo-joined (c.args.depth - 1) _ _ _ _ all c.args.text.now.tokens.reader (tokens m.text.now) first.1 middle.read middle.good c.in_ok-end-2.end m.rest c.take-3.new.tokens.reader c.in_ok-end-2.ensures.taken in
    let found : TakesElements c.in_ok-end-2.end c.args.depth (left_with c.args.text.now.tokens.reader (Some m)) c.take-3.new.tokens.reader (λ ds. c.found-2.result ≡ doc_of_elements format (Some ds)) =
    TakesElements-up_to c.in_ok-end-2.end c.args.depth (omega arith) _ c.take-3.new.tokens.reader _ _ (λ ds added. c.found-2.ensures ∙ doc_of_elements-collected format c.new-elements.result c.take-3.new.self ds c.new-elements.ensures.items c.new-elements.ensures.few added) joined in
    subst₂ (λ old new. TakesElements c.in_ok-end-2.end c.args.depth old new (λ ds. c.found-2.result ≡ doc_of_elements format (Some ds))) (ap (left_with c.args.text.now.tokens.reader) (sym is)) (sym after) found
