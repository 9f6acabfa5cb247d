-- Runs of calls, one more at a time.
use Rattle.std.proofs.Common.{◌≡◌, ◌∙◌, ℕ, ◌<◌, List, [], ◌∷◌, ◌++◌, length, get_or, slice_get, IfSome, refl, ap, sym, subst}
use Rattle.std.proofs.lemmas.Option.{slice_get_read}
use Rattle.hdr_model.specs.Plain.{Plain}
use Rattle.hdr_model.specs.Runs.{State, after_each, EachIsAccepted, EachTo, StandsAt}

-- the last call of a run
EachTo-push : {C : Type 0} (To : C → State → State → Type 0) (fits : List ℕ → Type 0) (calls : List C) (call : C) (s t : State)
    → EachTo To fits (calls ++ call ∷ []) s t → (r : State) × EachTo To fits calls s r × To call r t × fits t.samples
EachTo-push To fits [] call s t r =
    (s, refl, subst (λ u. To call s u) (sym r.3) r.1, subst (λ (u : State). fits u.samples) (sym r.3) r.2)
EachTo-push To fits (first ∷ calls) call s t r =
    let rest = EachTo-push To fits calls call r.0 t r.3 in
    (rest.0, (r.0, r.1, r.2, rest.1), rest.2, rest.3)

EachIsAccepted-push : {C : Type 0} (after : C → Plain → Plain) (Taken : Plain → C → Type 0) (calls : List C) (call : C) (h : Plain)
    → EachIsAccepted after Taken calls h → Taken (after_each after calls h) call → EachIsAccepted after Taken (calls ++ call ∷ []) h
EachIsAccepted-push after Taken [] call h taken last = (last, tt)
EachIsAccepted-push after Taken (first ∷ calls) call h taken last =
    (taken.0, EachIsAccepted-push after Taken calls call (after first h) taken.1 last)

after_each-push : {C : Type 0} (after : C → Plain → Plain) (calls : List C) (call : C) (h : Plain)
    → after_each after (calls ++ call ∷ []) h ≡ after call (after_each after calls h)
after_each-push after [] call h = refl
after_each-push after (first ∷ calls) call h = after_each-push after calls call (after first h)

-- calls took a histogram from h to k, one after another
pub record WasRun {C : Type 0} (after : C → Plain → Plain) (Taken : Plain → C → Type 0) (To : C → State → State → Type 0) (fits : List ℕ → Type 0) (calls : List C) (h k : Plain) : Type 0 where
  pub taken : EachIsAccepted after Taken calls h
  pub done : k ≡ after_each after calls h
  pub samples : (s t : State) → StandsAt h s → EachTo To fits calls s t → StandsAt k t

-- one call more
pub WasRun-push : {C : Type 0} (after : C → Plain → Plain) (Taken : Plain → C → Type 0) (To : C → State → State → Type 0) (fits : List ℕ → Type 0) (calls : List C) (call : C) (h k new : Plain)
    → WasRun after Taken To fits calls h k → Taken k call → new ≡ after call k
    → ((s t : State) → StandsAt k s → To call s t → fits t.samples → StandsAt new t)
    → WasRun after Taken To fits (calls ++ call ∷ []) h new
WasRun-push after Taken To fits calls call h k new run taken made stands = record {
  taken = EachIsAccepted-push after Taken calls call h run.taken (subst (λ (x : Plain). Taken x call) run.done taken);
  done = made ∙ ap (after call) run.done ∙ sym (after_each-push after calls call h);
  samples = λ s t at to.
      let last = EachTo-push To fits calls call s t to in
      stands last.0 t (run.samples s last.0 at last.1) last.2 last.3;
}

-- what holds of the call at an index holds of the call that is found there
pub at_place : {C : Type 0} (P : C → Type 0) (calls : List C) (at : ℕ) (call : C) → at < length calls → call ≡ get_or calls at call → P call → IfSome (slice_get calls at) P
at_place P calls at call within is p = subst (λ o. IfSome o P) (sym (slice_get_read calls (length calls) at call refl within is)) p
