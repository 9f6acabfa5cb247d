-- The intervals that logs have left, of which one has lost some.
use Rattle.std.proofs.Common.{◌≡◌, ℕ, zero, suc, ◌<◌, ◌≤◌, ◌+◌, List, [], ◌∷◌, ◌++◌, Option, Some, None, IfSome, map, length, take, get_or, refl, sym, ap, subst, ◌∙◌, arith, append_assoc, append-nil}
use Rattle.std.proofs.Math.ListN.{set}
use Rattle.std.proofs.Math.Seq.{take-suc-set}
use Rattle.std.specs.List.{All}
use Rattle.std.proofs.lemmas.List.{map-append}
use Rattle.std.specs.List.Sorted.{IsPermutation}
use Rattle.std.proofs.lemmas.List.Elements.{All-head, All-tail, All-append, All-cons, All-nil}
use Rattle.std.proofs.lemmas.List.Sorted.{IsPermutation-refl, IsPermutation-trans, IsPermutation-append_left, IsPermutation-append_right, IsPermutation-append_comm}
use Rattle.hdr_logs.specs.Stored.{Stored, view_of_stored}
use Rattle.hdr_logs.specs.declared.stored.StoredInterval.{StoredInterval}
use Rattle.hdr_gather.specs.declared.peekable.PeekableLog.{PeekableLog}
use Rattle.hdr_gather.specs.Left.{HasLeft, HaveLeft, AreLeft, Loses, Takes, next_interval, IsReady, IsFrom}
use Rattle.std.specs.Option.{option_map}

-- two lists before a third, exchanged
exchanged : (xs ys zs : List Stored) → IsPermutation (xs ++ (ys ++ zs)) (ys ++ (xs ++ zs))
exchanged xs ys zs =
    subst (λ l. IsPermutation l (ys ++ (xs ++ zs))) (append_assoc xs ys zs)
    (subst (IsPermutation ((xs ++ ys) ++ zs)) (append_assoc ys xs zs) (IsPermutation-append_left zs (xs ++ ys) (ys ++ xs) (IsPermutation-append_comm xs ys)))

-- a time that is at or above every number is none
no_start : (next : Option StoredInterval) → ((low : ℕ) → IfSome (option_map (λ next. next.start) next) (λ start. low ≤ start)) → next ≡ None
no_start None h = refl
no_start (Some next) h = absurd (omega (arith, h (next.start + 1)))

module _ {R : Type 0} (remaining : R → Option (List ℕ)) where
  -- one log loses intervals
  pub loses_set : (logs : List (PeekableLog R)) (i : ℕ) (d new : PeekableLog R) (taken : List Stored) → i < length logs
      → ((one : List Stored) → HasLeft remaining new one → HasLeft remaining (get_or logs i d) (taken ++ one)) → Loses remaining logs (set logs i new) taken
  loses_set [] i d new taken l step rest left = absurd (omega arith)
  loses_set (log ∷ logs) zero d new taken l step rest left =
      let one = left.0 in
      let others = left.1 in
      let all : (taken ++ one) ++ others ≡ taken ++ rest = append_assoc taken one others ∙ ap (λ l. taken ++ l) (sym left.2) in
      ((taken ++ one) ++ others, (taken ++ one, others, refl, step one left.3, left.4), subst (IsPermutation ((taken ++ one) ++ others)) all (IsPermutation-refl ((taken ++ one) ++ others)))
  loses_set (log ∷ logs) (suc i) d new taken l step rest left =
      let one = left.0 in
      let others = left.1 in
      let below : i < length logs = omega (arith, l) in
      let more : AreLeft remaining logs (taken ++ others) = loses_set logs i d new taken below step others left.4 in
      let moved : IsPermutation (one ++ more.0) (taken ++ (one ++ others)) =
      IsPermutation-trans (one ++ more.0) (one ++ (taken ++ others)) (taken ++ (one ++ others)) (IsPermutation-append_right one more.0 (taken ++ others) more.2) (exchanged one taken others) in
      (one ++ more.0, (one, more.0, refl, left.3, more.1), subst (λ l. IsPermutation (one ++ more.0) (taken ++ l)) (sym left.2) moved)

  -- logs lose intervals, and then others
  pub loses_both : (a b c : List (PeekableLog R)) (xs ys : List Stored) → Loses remaining a b xs → Loses remaining b c ys → Loses remaining a c (xs ++ ys)
  loses_both a b c xs ys p q = λ rest left.
      let second = q rest left in
      let first = p second.0 second.1 in
      let all : IsPermutation first.0 (xs ++ (ys ++ rest)) = IsPermutation-trans first.0 (xs ++ second.0) (xs ++ (ys ++ rest)) first.2 (IsPermutation-append_right xs second.0 (ys ++ rest) second.2) in
      (first.0, first.1, subst (IsPermutation first.0) (sym (append_assoc xs ys rest)) all)

  pub loses_none : (logs : List (PeekableLog R)) → Loses remaining logs logs []
  loses_none logs = λ rest left. (rest, left, IsPermutation-refl rest)

  -- logs that each have nothing left
  pub none_left : (logs : List (PeekableLog R)) → All (λ r. HasLeft remaining r []) logs → HaveLeft remaining logs []
  none_left [] h = refl
  none_left (log ∷ logs) h = ([], [], refl, All-head (λ r. HasLeft remaining r []) log logs h, none_left logs (All-tail (λ r. HasLeft remaining r []) log logs h))

  -- all that logs had left was lost
  pub all_lost : (a b : List (PeekableLog R)) (xs : List Stored) → Loses remaining a b xs → All (λ r. HasLeft remaining r []) b → AreLeft remaining a xs
  all_lost a b xs p none =
      let all = p [] (none_left b none) in
      (all.0, all.1, subst (IsPermutation all.0) (append-nil xs) all.2)

  -- no interval is taken
  pub takes_none : (log : PeekableLog R) (before : List StoredInterval) → Takes remaining log log before before
  takes_none log before = ([], sym (append-nil before), λ rest left. left)

  -- intervals are taken, and then one more
  pub takes_more : (a b c : PeekableLog R) (xs ys zs : List StoredInterval) (i : StoredInterval) → Takes remaining a b xs ys → zs ≡ ys ++ i ∷ []
      → ((rest : List Stored) → HasLeft remaining c rest → HasLeft remaining b (view_of_stored i ∷ rest)) → Takes remaining a c xs zs
  takes_more a b c xs ys zs i p is step =
      let first : List Stored = map view_of_stored p.0 in
      let both : (rest : List Stored) → map view_of_stored (p.0 ++ i ∷ []) ++ rest ≡ first ++ (view_of_stored i ∷ rest) = λ rest.
      ap (λ l. l ++ rest) (map-append view_of_stored p.0 (i ∷ [])) ∙ append_assoc first (view_of_stored i ∷ []) rest in
      (p.0 ++ i ∷ [], is ∙ ap (λ l. l ++ i ∷ []) p.1 ∙ append_assoc xs p.0 (i ∷ []), λ rest left. subst (HasLeft remaining a) (sym (both rest)) (p.2 (view_of_stored i ∷ rest) (step rest left)))

  -- intervals that one log loses
  pub loses_taken : (a logs : List (PeekableLog R)) (i : ℕ) (d new : PeekableLog R) (before after : List StoredInterval) → i < length logs
      → Takes remaining (get_or logs i d) new before after → Loses remaining a logs (map view_of_stored before) → Loses remaining a (set logs i new) (map view_of_stored after)
  loses_taken a logs i d new before after l t so_far =
      let taken : List Stored = map view_of_stored t.0 in
      let all : map view_of_stored after ≡ map view_of_stored before ++ taken = ap (map view_of_stored) t.1 ∙ map-append view_of_stored before t.0 in
      subst (Loses remaining a (set logs i new)) (sym all)
      (loses_both a logs (set logs i new) (map view_of_stored before) taken so_far (loses_set logs i d new taken l t.2))

  -- intervals that are lost, in another order
  pub loses_then : (a b c : List (PeekableLog R)) (read taken sorted : List Stored) → Loses remaining a b read → Loses remaining b c taken
      → IsPermutation taken sorted → Loses remaining a c (read ++ sorted)
  loses_then a b c read taken sorted p q moved = λ rest left.
      let both = loses_both a b c read taken p q rest left in
      let all : IsPermutation ((read ++ taken) ++ rest) ((read ++ sorted) ++ rest) =
      IsPermutation-append_left rest _ _ (IsPermutation-append_right read taken sorted moved) in
      (both.0, both.1, IsPermutation-trans both.0 _ _ both.2 all)

  -- the intervals that logs had left before none was lost
  pub left_before : (a b : List (PeekableLog R)) (xs : List Stored) → Loses remaining a b [] → AreLeft remaining b xs → AreLeft remaining a xs
  left_before a b xs p q = let h = p q.0 q.1 in (h.0, h.1, IsPermutation-trans h.0 q.0 xs h.2 q.2)

  -- logs that are ready and hold no interval have nothing left
  pub nothing_left : (logs : List (PeekableLog R)) → All (IsReady remaining) logs → ((low : ℕ) → All (IsFrom low) logs) → All (λ r. HasLeft remaining r []) logs
  nothing_left [] ready from = All-nil (λ r. HasLeft remaining r [])
  nothing_left (log ∷ logs) ready from =
      let none : log.next ≡ None = no_start log.next (λ low. All-head (IsFrom low) log logs (from low)) in
      let here : HasLeft remaining log [] = ([], subst (λ o. [] ≡ next_interval o ++ []) (sym none) refl, (All-head (IsReady remaining) log logs ready).1 none) in
      All-cons (λ r. HasLeft remaining r []) log logs here (nothing_left logs (All-tail (IsReady remaining) log logs ready) (λ low. All-tail (IsFrom low) log logs (from low)))

-- what is so of logs up to one that is replaced
pub all_up_to : {X : Type 0} (P : X → Type 0) (xs : List X) (i : ℕ) (x : X) → i < length xs → All P (take i xs) → P x → All P (take (i + 1) (set xs i x))
all_up_to P xs i x l all here =
    let next : i + 1 ≡ suc i = omega arith in
    let more : take (i + 1) (set xs i x) ≡ take i xs ++ x ∷ [] = ap (λ n. take n (set xs i x)) next ∙ take-suc-set xs i x l in
    subst (All P) (sym more) (All-append P (take i xs) (x ∷ []) all (All-cons P x [] here (All-nil P)))
