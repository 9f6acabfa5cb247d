-- Laws of what is recorded in batches.
use Rattle.std.specs.Prelude.{ℕ, ◌^◌, ◌<◌, ◌≤◌, List, [], ◌++◌, length}
use Rattle.std.proofs.Common.{sym, subst, append_assoc, arith, inl, inr}
use Rattle.std.proofs.lemmas.List.{append-nil}
use Rattle.std.proofs.lemmas.Bool.{cases_lt}
use Rattle.hdr_runs.specs.declared.batch_tally.BatchTally.{BatchTally}
use Rattle.hdr_runs.specs.Batched.{AreAll, HasSamples, TakesSame, total_of}

-- what is taken of samples
abbrev Taken : List ℕ → BatchTally → Type 0
Taken S t = (T : List ℕ) × AreAll (S ++ T) t × (length (S ++ T) < 2 ^ 64 → HasSamples (S ++ T) t)

-- nothing is taken where nothing changes
pub takes_nothing : (t : BatchTally) → TakesSame t t
takes_nothing t = record {
  has = λ has. has;
  grows = λ _. omega arith;
  samples = λ _ S stands. (
    [],
    subst (λ L. AreAll L t) (sym (append-nil S)) (λ _. sym stands.all.total),
    subst (λ (L : List ℕ). length L < 2 ^ 64 → HasSamples L t) (sym (append-nil S)) (λ _. stands),
  );
}

-- what is taken after other samples
pub takes_after : (a b c : BatchTally) → TakesSame a b → TakesSame b c → TakesSame a c
takes_after a b c first more = record {
  has = λ has. first.has (more.has has);
  grows = λ has. omega (arith, more.grows has, first.grows (more.has has));
  samples = λ has S stands. joined S (first.samples (more.has has) S stands) (more.grows has) (more.samples has);
}
  where
    joined : (S : List ℕ) → Taken S b → total_of b ≤ total_of c → ((S : List ℕ) → HasSamples S b → Taken S c) → Taken S c
    joined S one grows then =
        elim (cases_lt (length (S ++ one.0)) (2 ^ 64)) [
          | inl few ↦ (
              let next = then (S ++ one.0) (one.2 few) in (
                one.0 ++ next.0,
                subst (λ L. AreAll L c) (append_assoc S one.0 next.0) next.1,
                subst (λ (L : List ℕ). length L < 2 ^ 64 → HasSamples L c) (append_assoc S one.0 next.0) next.2,
              ))
          | inr many ↦ (one.0, (λ less. absurd (omega (arith, many, grows, less, one.1 (omega (arith, grows, less))))), λ small. absurd (omega (arith, many, small)))
        ]
