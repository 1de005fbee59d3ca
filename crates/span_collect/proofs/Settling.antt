-- The account of a closed ledger, from what the callers say that they recorded.
use Rattle.std.specs.Prelude.{sum_by}
use Rattle.std.proofs.{Common.{◌≡◌, ◌≢◌, ℕ, ◌+◌, ◌≤◌, List, [], ◌∷◌, length, map, take, Some, None, Ok, Err, Option, Contains, refl, sym, subst, ap, ap₂, ◌∙◌, arith, inl, inr}, lemmas.List.{length-map, length-take-le, Sums.sum_by-cons}}
use Rattle.span_share.proofs.CallersLists.{Contains-here, Contains-later}
use Rattle.span_collect.specs.{Item, Format, doc, Entry, Op, One, Ask, Query, IsLegal, Kept, Terms, calls, AreDistinct, caller_of, Account.{Account, Document, EndsAs, EachEndsAs, IsAsked, StopsAsking, asking, callers_named, operations, telling}, Collection.{HasMore, IsClosed, calls_told, told_by}, declared.{files.{FileEnd.{FileEnd, TheVariants.{Read, Refused, Stopped, NotStarted}}, Input.Input}, queries.Asked.Asked, settings.Settings.Settings}}
use Rattle.span_collect.proofs.{Counting.{total, total-le, total-all}, Meeting.{BeginsWith-length, EachEndsAs-later, IsAsked-later}}

-- as many entries as operations
calls-length : (journal : List Entry) (caller : ℕ) (ops : List Op) → operations journal caller ≡ ops → length (calls caller_of caller journal) ≡ length ops
calls-length journal caller ops is = sym (length-map (calls caller_of caller journal) (λ (e : Entry). e.op)) ∙ ap length is

length-telling : (items : List Item) → length (telling items) ≡ length items
length-telling items = length-map items (λ (i : Item). One i)

-- a file's items are as many as the entries of its caller
told-one : (journal : List Entry) (limit : ℕ) (document : Document) (end : FileEnd) (ends : List FileEnd) → EndsAs journal limit document end → told_by end + total (callers_named ends) journal ≡ total (callers_named (end ∷ ends)) journal
told-one journal limit (Ok items) (Read caller count) ends ended = omega (arith, ended.0, calls-length journal caller (telling items) ended.1, length-telling items)
told-one journal limit (Err error) (Read caller count) ends ended = absurd ended
told-one journal limit (Ok items) (Refused caller code) ends ended = absurd ended
told-one journal limit (Err error) (Refused caller code) ends ended = omega (arith, calls-length journal caller [] ended.1)
told-one journal limit (Ok items) (Stopped caller done cause) ends (inl first, is) =
    omega (arith, calls-length journal caller (telling (take done items)) first.1, length-telling (take done items), length-take-le done items (omega (arith, first.0)))
told-one journal limit (Err error) (Stopped caller done cause) ends (inl first, is) = absurd first
told-one journal limit document (Stopped caller done cause) ends (inr unread, is) = omega (arith, unread.0, calls-length journal caller [] unread.2)
told-one journal limit document NotStarted ends ended = omega arith

told-total : (format : Format) (journal : List Entry) (limit : ℕ) (files : List Input) (ends : List FileEnd) → EachEndsAs format journal limit files ends → sum_by told_by ends ≡ total (callers_named ends) journal
told-total format journal limit [] [] ended = refl
told-total format journal limit [] (end ∷ ends) ended = absurd ended
told-total format journal limit (file ∷ files) [] ended = absurd ended
told-total format journal limit (file ∷ files) (end ∷ ends) ended =
    sum_by-cons told_by end ends ∙ ap (λ n. told_by end + n) (told-total format journal limit files ends ended.1) ∙ told-one journal limit (doc format file.bytes.items) end ends ended.0

asked-total : (journal : List Entry) (limit : ℕ) (asks : List Query) (asked : Asked) → IsAsked journal limit asks asked → asked.done ≡ length (calls caller_of 0 journal)
asked-total journal limit asks asked is =
    sym (calls-length journal 0 (asking (take asked.done asks)) is.recorded ∙ length-map (take asked.done asks) (λ (q : Query). Ask q) ∙ length-take-le asked.done asks (within asked.cause is.stop))
  where
    within : (cause : Option _) → StopsAsking journal limit asks asked.done cause → asked.done ≤ length asks
    within None stop = omega (arith, stop)
    within (Some cause) stop = omega (arith, stop.0)

module _ (files : List Input) (asks : List Query) (settings : Settings) (ends : List FileEnd) (asked : Asked) (ledger : Kept) (closed : IsClosed files asks settings ends asked ledger) where
  pub limit_is : closed.share.terms.limit ≡ settings.limit
  limit_is = ap (λ (t : Terms). t.limit) closed.terms_are

  pub strict_is : ledger.strict ≡ settings.strict
  strict_is = closed.closes.strict ∙ ap (λ (t : Terms). t.strict) closed.terms_are

  kept : (c : ℕ) → Contains (0 ∷ callers_named ends) c → operations ledger.journal c ≡ operations closed.seat.seen c
  kept c at = ap (map (λ (e : Entry). e.op)) (closed.closes.seen.lists c (subst (λ l. Contains l c) (sym closed.met.owned) at))

  grows : length closed.seat.seen ≤ length ledger.journal
  grows = BeginsWith-length ledger.journal closed.seat.seen closed.closes.seen.begins

  ended : EachEndsAs settings.format ledger.journal settings.limit files ends
  ended = subst (λ n. EachEndsAs settings.format ledger.journal n files ends) limit_is
      (EachEndsAs-later settings.format closed.share.terms.limit closed.seat.seen ledger.journal files ends grows (λ c at. kept c (Contains-later 0 (callers_named ends) c at)) closed.met.ended)

  queries : IsAsked ledger.journal settings.limit asks asked
  queries = subst (λ n. IsAsked ledger.journal n asks asked) limit_is
      (IsAsked-later closed.share.terms.limit closed.seat.seen ledger.journal asks asked grows (kept 0 (Contains-here 0 (callers_named ends))) closed.met.queries)

  distinct : AreDistinct (0 ∷ callers_named ends)
  distinct = subst AreDistinct closed.met.owned closed.met.sound.distinct

  within : length ledger.journal ≤ settings.limit
  within = omega (arith, closed.closes.lawful.within, closed.closes.limit, limit_is)

  all_calls : calls_told ends asked ≡ total (0 ∷ callers_named ends) ledger.journal
  all_calls = ap₂ (λ (m n : ℕ). m + n) (asked-total ledger.journal settings.limit asks asked queries) (told-total settings.format ledger.journal settings.limit files ends ended)

  -- the calls are no more than the entries, and so within the limit
  pub IsClosed-few : calls_told ends asked ≤ settings.limit
  IsClosed-few = omega (arith, all_calls, total-le (0 ∷ callers_named ends) ledger.journal distinct, within)

  -- where they are as many, nothing else stands in the journal
  pub IsClosed-accounts : length ledger.journal ≡ calls_told ends asked → Account files asks settings ends asked ledger.journal
  IsClosed-accounts same = record {
    legal = subst (λ b. IsLegal b ledger.journal) strict_is closed.closes.lawful.legal;
    within_limit = within;
    each_file_once_in_order = ended;
    each_query_once_in_order = queries;
    distinct_callers = distinct;
    nothing_else = total-all (0 ∷ callers_named ends) ledger.journal distinct (sym (same ∙ all_calls));
  }

  -- where they are fewer, something else does
  pub IsClosed-more : length ledger.journal ≢ calls_told ends asked → HasMore files asks settings (length ledger.journal) (calls_told ends asked)
  IsClosed-more differ = record {
    journal = ledger.journal;
    ends = ends;
    asked = asked;
    legal = subst (λ b. IsLegal b ledger.journal) strict_is closed.closes.lawful.legal;
    within_limit = within;
    each_file_once_in_order = ended;
    each_query_once_in_order = queries;
    distinct_callers = distinct;
    entries_are = refl;
    told_are = refl;
    more = omega (arith, all_calls, total-le (0 ∷ callers_named ends) ledger.journal distinct, differ);
  }
