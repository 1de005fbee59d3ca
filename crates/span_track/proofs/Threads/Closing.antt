-- The end of the last open span.
use Rattle.std.specs.Prelude.{Err, Ok}
use Rattle.std.proofs.{Common.{◌≡◌, ℕ, ◌-◌, take, slice_get, Bool, true, false, cond, ℤ, List, [], ◌∷◌, ◌++◌, length, Option, Some, None, map, refl, ap, ◌∙◌, subst}, lemmas.List.map_push}
use Rattle.span_keyed_tracks.proofs.{Lists.Last.{last_of-append, take-last}, Matching.Open.opener-open_of}
use Rattle.span_track.specs.{TimeGoesBack, NameDiffers, refusal_of, merged, Arguments, Span, last_of, Kept.{begin_of, IsSound}, Nesting.{Begin, ThreadEvent, opener, open_spans}, Thread.{ThreadSpans, any_name, goes_back, closing, end_refusal, merged_args, merged_with}, declared.thread.OpenSpan.OpenSpan}

-- the last of the open spans, as a begin
pub opened-last : (items : List OpenSpan) (o : OpenSpan) → Some o ≡ slice_get items (length items - 1) → map begin_of items ≡ map begin_of (take (length items - 1) items) ++ begin_of o ∷ []
opened-last items o read = ap (map begin_of) (take-last items o read) ∙ map_push begin_of (take (length items - 1) items) o

-- the track, of which the last open span is taken
pub sound_with_last : (items : List OpenSpan) (o : OpenSpan) (closed : List (Span ℕ)) (last latest : Option ℤ) → Some o ≡ slice_get items (length items - 1) → IsSound (record { opened = map begin_of items; closed = closed; last = last; latest = latest }) →
    IsSound (record { opened = map begin_of (take (length items - 1) items) ++ begin_of o ∷ []; closed = closed; last = last; latest = latest })
sound_with_last items o closed last latest read sound = subst (λ (l : List (Begin ℕ)). IsSound (record { opened = l; closed = closed; last = last; latest = latest })) (opened-last items o read) sound

-- where a span is open, an end is refused as a begin is, and then where the name of that span doesn't suit
end_refusal-open : {N : Type 0} (is_suited : N → Bool) (t : ThreadSpans N) (ts : ℤ) (b : Begin N) → last_of t.opened ≡ Some b →
    end_refusal is_suited t ts ≡ cond (goes_back ts t.last) (Some 22) (cond (is_suited b.name) None (Some 27))
end_refusal-open {N = N} is_suited t ts b is = ap (λ o. refusal_of (closing is_suited o t.last ts)) is ∙ by (goes_back ts t.last) (is_suited b.name)
  where
    by : (back suited : Bool) → refusal_of (cond back (Err TimeGoesBack) (cond suited (Ok b) (Err NameDiffers))) ≡ cond {A = Option ℕ} back (Some 22) (cond suited None (Some 27))
    by true suited = refl
    by false true = refl
    by false false = refl

-- the same by the last of the open spans
pub end_refusal-last : (is_suited : ℕ → Bool) (t : ThreadSpans ℕ) (ts : ℤ) (items : List OpenSpan) (o : OpenSpan) → t.opened ≡ map begin_of items → Some o ≡ slice_get items (length items - 1) →
    end_refusal is_suited t ts ≡ cond (goes_back ts t.last) (Some 22) (cond (is_suited o.name) None (Some 27))
end_refusal-last is_suited t ts items o view read =
    end_refusal-open is_suited t ts (begin_of o) (ap last_of (view ∙ opened-last items o read) ∙ last_of-append (map begin_of (take (length items - 1) items)) (begin_of o))

-- an end matches the last open span
pub opener_of_last : (es : List (ThreadEvent ℕ)) (opened : List (Begin ℕ)) (b : Begin ℕ) → open_spans es ≡ opened ++ b ∷ [] → opener es ≡ Some b
opener_of_last es opened b is_open = opener-open_of es ∙ ap last_of is_open ∙ last_of-append opened b

module _ {N : Type 0} (is_suited : N → Bool) (t : ThreadSpans N) (ts : ℤ) where
  -- an end or a seal that is not refused is not too early
  pub goes_back-taken : end_refusal is_suited t ts ≡ None → goes_back ts t.last ≡ false
  goes_back-taken taken = by (last_of t.opened) taken
    where
      in_time : (b : Begin N) (back suited : Bool) → refusal_of (cond back (Err TimeGoesBack) (cond suited (Ok b) (Err NameDiffers))) ≡ None → back ≡ false
      in_time b true suited taken = cc
      in_time b false suited taken = refl

      by : (o : Option (Begin N)) → refusal_of (closing is_suited o t.last ts) ≡ None → goes_back ts t.last ≡ false
      by None taken = cc
      by (Some b) taken = in_time b (goes_back ts t.last) (is_suited b.name) taken

  -- an end that is not refused for its name is not refused where any name suits
  pub end_refusal-any_name : end_refusal is_suited t ts ≡ None → end_refusal any_name t ts ≡ None
  end_refusal-any_name taken = by (last_of t.opened) taken
    where
      in_time : (b : Begin N) (back suited : Bool) → refusal_of (cond back (Err TimeGoesBack) (cond suited (Ok b) (Err NameDiffers))) ≡ None
          → refusal_of {A = Begin N} (cond back (Err TimeGoesBack) (Ok b)) ≡ None
      in_time b true suited taken = cc
      in_time b false suited taken = refl

      by : (o : Option (Begin N)) → refusal_of (closing is_suited o t.last ts) ≡ None → refusal_of (closing any_name o t.last ts) ≡ None
      by None taken = taken
      by (Some b) taken = in_time b (goes_back ts t.last) (is_suited b.name) taken

-- the arguments with those of the last open span
pub merged_args-open : (t : ThreadSpans ℕ) (opened : List (Begin ℕ)) (b : Begin ℕ) (args : Arguments) → t.opened ≡ opened ++ b ∷ [] → merged_args t args ≡ merged b.args args
merged_args-open t opened b args is_open = ap (λ (o : Option (Begin ℕ)). merged_with o args) (ap last_of is_open ∙ last_of-append opened b)
