-- Distinct keys in ascending order, however they come.
use Rattle.std.specs.{BTreeSet.insert_key, Cmp.{IsTotalOrder, tied_itself}, List.list_any, Ordering.{match_ordering, ordering_reverse}, Prelude.fold, declared.cmp.Ordering.{Ordering, TheVariants.{Less, Equal, Greater}}}
use Rattle.std.proofs.{Common.{◌≡◌, List, [], ◌∷◌, ◌++◌, Bool, true, false, ◌||◌, cond, refl, sym, ap, ◌∙◌}, lemmas.List.Sums.fold-append}
use Rattle.indexmap.specs.IndexSet.{insert_key as add_key}
use Rattle.span_keyed_tracks.specs.Keyed.{ascending}

-- steps that change nothing when they are repeated, and whose order is all one
module _ {K B : Type 0} (step : B → K → B) (twice : (b : B) (k : K) → step (step b k) k ≡ step b k) (swap : (b : B) (j k : K) → step (step b j) k ≡ step (step b k) j) where
  fold-step : (ks : List K) (b : B) (k : K) → fold step (step b k) ks ≡ step (fold step b ks) k
  fold-step [] b k = refl
  fold-step (x ∷ xs) b k = ap (λ c. fold step c xs) (swap b k x) ∙ fold-step xs (step b x) k

  module _ (eq : K → K → Bool) (tied : (a b : K) → eq a b ≡ true → a ≡ b) where
    -- a step that was taken changes nothing
    fold-known : (ks : List K) (b : B) (k : K) → list_any (eq k) ks ≡ true → step (fold step b ks) k ≡ fold step b ks
    fold-known [] b k has = cc
    fold-known (x ∷ xs) b k has = by (eq k x) refl has (λ (h : list_any (eq k) xs ≡ true). fold-known xs (step b x) k h)
      where
        by : (known : Bool) → eq k x ≡ known → (known || list_any (eq k) xs) ≡ true →
            (list_any (eq k) xs ≡ true → step (fold step (step b x) xs) k ≡ fold step (step b x) xs) → step (fold step (step b x) xs) k ≡ fold step (step b x) xs
        by true e h rest =
            sym (fold-step xs (step b x) k)
            ∙ ap (λ y. fold step (step (step b x) y) xs) (tied k x e)
            ∙ ap (λ c. fold step c xs) (twice b x)
        by false e h rest = rest h

    -- the steps of a set, with one more
    pub fold-add_key : (b : B) (ks : List K) (k : K) → fold step b (add_key eq ks k) ≡ step (fold step b ks) k
    fold-add_key b ks k = by (list_any (eq k) ks) refl
      where
        by : (known : Bool) → list_any (eq k) ks ≡ known → fold step b (cond known ks (ks ++ k ∷ [])) ≡ step (fold step b ks) k
        by true e = sym (fold-known ks b k e)
        by false e = fold-append step b ks (k ∷ [])

    -- each step once gives what all steps give
    pub fold-once : (b : B) (done ks : List K) → fold step b (fold (add_key eq) done ks) ≡ fold step (fold step b done) ks
    fold-once b done [] = refl
    fold-once b done (k ∷ ks) = fold-once b (add_key eq done k) ks ∙ ap (λ c. fold step c ks) (fold-add_key b done k)

module _ {K : Type 0} {R : K → K → Ordering} (o : IsTotalOrder R) (same : (a b : K) → R a b ≡ Equal → a ≡ b) where
  insert_key-at : (k x : K) (xs : List K) (r : Ordering) → R k x ≡ r → insert_key R (x ∷ xs) k ≡ match_ordering r (k ∷ x ∷ xs) (x ∷ xs) (x ∷ insert_key R xs k)
  insert_key-at k x xs r e = ap (λ s. match_ordering s (k ∷ x ∷ xs) (x ∷ xs) (x ∷ insert_key R xs k)) e

  twice-by : (r : Ordering) (k x : K) (xs : List K) → R k x ≡ r → insert_key R (insert_key R xs k) k ≡ insert_key R xs k →
      insert_key R (match_ordering r (k ∷ x ∷ xs) (x ∷ xs) (x ∷ insert_key R xs k)) k ≡ match_ordering r (k ∷ x ∷ xs) (x ∷ xs) (x ∷ insert_key R xs k)
  twice-by Less k x xs e rest = insert_key-at k k (x ∷ xs) Equal (tied_itself o k)
  twice-by Equal k x xs e rest = insert_key-at k x xs Equal e
  twice-by Greater k x xs e rest = insert_key-at k x (insert_key R xs k) Greater e ∙ ap (λ l. x ∷ l) rest

  -- a key that was inserted is there
  pub insert_key-twice : (k : K) (ks : List K) → insert_key R (insert_key R ks k) k ≡ insert_key R ks k
  insert_key-twice k [] = insert_key-at k k [] Equal (tied_itself o k)
  insert_key-twice k (x ∷ xs) = twice-by (R k x) k x xs refl (insert_key-twice k xs)

  -- two keys that both go to the front
  at_front : (r : Ordering) (a b : K) (zs : List K) → R a b ≡ r → insert_key R zs a ≡ a ∷ zs → insert_key R zs b ≡ b ∷ zs → insert_key R (a ∷ zs) b ≡ insert_key R (b ∷ zs) a
  at_front Less a b zs e ha hb =
      insert_key-at b a zs Greater (o.antisymm b a ∙ ap ordering_reverse e) ∙ ap (λ l. a ∷ l) hb ∙ sym (insert_key-at a b zs Less e)
  at_front Equal a b zs e ha hb =
      insert_key-at b a zs Equal (o.antisymm b a ∙ ap ordering_reverse e) ∙ ap (λ k. k ∷ zs) (same a b e) ∙ sym (insert_key-at a b zs Equal e)
  at_front Greater a b zs e ha hb =
      insert_key-at b a zs Less (o.antisymm b a ∙ ap ordering_reverse e) ∙ ap (λ l. b ∷ l) (sym ha) ∙ sym (insert_key-at a b zs Greater e)

  above-equal : (a b x : K) → R a x ≡ Less → R b x ≡ Equal → R b a ≡ Greater
  above-equal a b x l e = o.congr b x a e ∙ o.antisymm x a ∙ ap ordering_reverse l

  above-greater : (a b x : K) → R a x ≡ Less → R b x ≡ Greater → R b a ≡ Greater
  above-greater a b x l g = o.antisymm b a ∙ ap ordering_reverse (o.trans a x b l (o.antisymm x b ∙ ap ordering_reverse g))

  swap-less-equal : (a b x : K) (xs : List K) → R a x ≡ Less → R b x ≡ Equal → insert_key R (a ∷ x ∷ xs) b ≡ insert_key R (x ∷ xs) a
  swap-less-equal a b x xs l e =
      insert_key-at b a (x ∷ xs) Greater (above-equal a b x l e) ∙ ap (λ l. a ∷ l) (insert_key-at b x xs Equal e) ∙ sym (insert_key-at a x xs Less l)

  swap-less-greater : (a b x : K) (xs : List K) → R a x ≡ Less → R b x ≡ Greater → insert_key R (a ∷ x ∷ xs) b ≡ insert_key R (x ∷ insert_key R xs b) a
  swap-less-greater a b x xs l g =
      insert_key-at b a (x ∷ xs) Greater (above-greater a b x l g) ∙ ap (λ l. a ∷ l) (insert_key-at b x xs Greater g) ∙ sym (insert_key-at a x (insert_key R xs b) Less l)

  swap-equal-greater : (a b x : K) (xs : List K) → R a x ≡ Equal → R b x ≡ Greater → insert_key R (x ∷ xs) b ≡ insert_key R (x ∷ insert_key R xs b) a
  swap-equal-greater a b x xs e g = insert_key-at b x xs Greater g ∙ sym (insert_key-at a x (insert_key R xs b) Equal e)

  swap-by : (ra rb : Ordering) (a b x : K) (xs : List K) → R a x ≡ ra → R b x ≡ rb → insert_key R (insert_key R xs a) b ≡ insert_key R (insert_key R xs b) a →
      insert_key R (match_ordering ra (a ∷ x ∷ xs) (x ∷ xs) (x ∷ insert_key R xs a)) b ≡ insert_key R (match_ordering rb (b ∷ x ∷ xs) (x ∷ xs) (x ∷ insert_key R xs b)) a
  swap-by Less Less a b x xs ea eb rest = at_front (R a b) a b (x ∷ xs) refl (insert_key-at a x xs Less ea) (insert_key-at b x xs Less eb)
  swap-by Less Equal a b x xs ea eb rest = swap-less-equal a b x xs ea eb
  swap-by Less Greater a b x xs ea eb rest = swap-less-greater a b x xs ea eb
  swap-by Equal Less a b x xs ea eb rest = sym (swap-less-equal b a x xs eb ea)
  swap-by Equal Equal a b x xs ea eb rest = insert_key-at b x xs Equal eb ∙ sym (insert_key-at a x xs Equal ea)
  swap-by Equal Greater a b x xs ea eb rest = swap-equal-greater a b x xs ea eb
  swap-by Greater Less a b x xs ea eb rest = sym (swap-less-greater b a x xs eb ea)
  swap-by Greater Equal a b x xs ea eb rest = sym (swap-equal-greater b a x xs eb ea)
  swap-by Greater Greater a b x xs ea eb rest =
      insert_key-at b x (insert_key R xs a) Greater eb ∙ ap (λ l. x ∷ l) rest ∙ sym (insert_key-at a x (insert_key R xs b) Greater ea)

  -- the order of insertions is all one
  pub insert_key-swap : (a b : K) (ks : List K) → insert_key R (insert_key R ks a) b ≡ insert_key R (insert_key R ks b) a
  insert_key-swap a b [] = at_front (R a b) a b [] refl refl refl
  insert_key-swap a b (x ∷ xs) = swap-by (R a x) (R b x) a b x xs refl refl (insert_key-swap a b xs)

  -- the distinct keys of a set in the order of their first use, with one more, in ascending order
  module _ (eq : K → K → Bool) (tied : (a b : K) → eq a b ≡ true → a ≡ b) where
    pub ascending-add_key : (ks : List K) (k : K) → ascending R (add_key eq ks k) ≡ insert_key R (ascending R ks) k
    ascending-add_key ks k = fold-add_key (insert_key R) (λ l k. insert_key-twice k l) (λ l a b. insert_key-swap a b l) eq tied [] ks k

    -- the order in which keys come, and how often, is all one
    pub ascending-fold : (done ks : List K) → ascending R (fold (add_key eq) done ks) ≡ fold (insert_key R) (ascending R done) ks
    ascending-fold done ks = fold-once (insert_key R) (λ l k. insert_key-twice k l) (λ l a b. insert_key-swap a b l) eq tied [] done ks
