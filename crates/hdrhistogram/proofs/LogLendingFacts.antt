-- The clauses of `begin_log_with`, by those of the calls in its body. `begun_fact` assumes `Logic`.
use seplogic.Ra.Ura.{Ura}
use base.Logic.{SProp, ent, sep}
use contract.Monad.{fact}
use types.Logic.{Logic}
use types.Kit.{raw, ◌⊛◌, ◌$◌, ◌∵◌, !, qed, split, done}
use denote.Steps.{heard}
use mathlib.Core.List.{[], ◌∷◌}
use Rattle.hdrhistogram.proofs.FactSteps.{noted}
use Rattle.std.proofs.Common.{◌≡◌, ◌↔◌, ℕ, List, false, Option, Result, Ok, Err, IfOk, IfErr, refl, sym, subst}
use Rattle.std.specs.Io.KnownBytes.{Appends}
use Rattle.std.specs.Borrow.{MutBor}
use Rattle.hdrhistogram.specs.LogStarts.{LogStart, new_start, IsStartText, AreTimesInRange}
use Rattle.hdrhistogram.specs.LogLeaving.{WritesText, is_time_error, IsNoSerializeError}
use Rattle.hdrhistogram.specs.LogWriters.{sink, serializer_of, divisor_of}
use Rattle.hdrhistogram.specs.declared.serialization.interval_log.errors.IntervalLogWriterError.{IntervalLogWriterError}
use Rattle.hdrhistogram.specs.declared.serialization.interval_log.errors.IntervalLogWriterError.TheVariants.{SerializeError, IoError, TimeOutOfRange, OutOfMemory}
use Rattle.hdrhistogram.specs.declared.serialization.interval_log.writer.IntervalLogWriter.{IntervalLogWriter}

pub same_time : (A B : Type 0) {E : Type 0} (e : IntervalLogWriterError E) → is_time_error {A = A} (Err e) ≡ is_time_error {A = B} (Err e)
same_time A B (SerializeError e) = refl
same_time A B (IoError e) = refl
same_time A B TimeOutOfRange = refl
same_time A B OutOfMemory = refl

module _ (W S E : Type 0) (contents : W → Option (List ℕ)) (start : LogStart) (writer : MutBor W) (serializer : MutBor S) (new : W) where
  abbrev pub IsTimeError : {A : Type 0} → Result A (IntervalLogWriterError E) → Type 0
  IsTimeError r = (is_time_error r ≡ false) ↔ AreTimesInRange start

  -- what `write_headers` ensures, if it leaves `new` in the writer
  pub record Headed (r : Result (Unit {0}) (IntervalLogWriterError E)) : Type 0 where
    pub leaves : WritesText (IsStartText start) (λ _. ⊥) (contents writer.now) (contents new) r
    pub time : IsTimeError r
    pub plain : start ≡ new_start → r ≡ Ok tt

  -- what `begin_log_with` ensures, but for the borrows
  abbrev Written : Result (IntervalLogWriter W S) (IntervalLogWriterError E) → Type 0
  Written r = IfOk r (λ log. (text : List ℕ) × IsStartText start text × Appends (contents writer.now) (contents (sink log).now) text)

  abbrev Lent : Result (IntervalLogWriter W S) (IntervalLogWriterError E) → Type 0
  Lent r = IfOk r (λ log. ((serializer_of log).now ≡ serializer.now) × (divisor_of log ≡ start.divisor))

  abbrev Plain : Result (IntervalLogWriter W S) (IntervalLogWriterError E) → Type 0
  Plain r = start ≡ new_start → IfErr r (λ _. ⊥)

  pub record Begun (r : Result (IntervalLogWriter W S) (IntervalLogWriterError E)) : Type 0 where
    pub written : Written r
    pub lent : Lent r
    pub time : IsTimeError r
    pub plain : Plain r
    pub no_serialize_error : IfErr r IsNoSerializeError

  abbrev pub begun_facts : {M : Type 1} (𝓤 : Ura M) → Result (IntervalLogWriter W S) (IntervalLogWriterError E) → SProp 𝓤
  begun_facts 𝓤 r = sep 𝓤 (fact 𝓤 (Written r)) (sep 𝓤 (fact 𝓤 (Lent r)) (sep 𝓤 (fact 𝓤 (IsTimeError r)) (sep 𝓤 (fact 𝓤 (Plain r)) (fact 𝓤 (IfErr r IsNoSerializeError)))))

  pub begun : (u : Unit {0}) → Headed (Ok u) → (log : IntervalLogWriter W S) → (sink log).now ≡ new → ((serializer_of log).now ≡ serializer.now) × (divisor_of log ≡ start.divisor) → Begun (Ok log)
  begun u headed log holds lent = record {
    written = (headed.leaves.0, headed.leaves.1, subst (λ x. Appends (contents writer.now) (contents x) headed.leaves.0) (sym holds) headed.leaves.2);
    lent = lent;
    time = headed.time;
    plain = λ _. tt;
    no_serialize_error = tt;
  }

  no_serialize_error_of : (e : IntervalLogWriterError E) → Headed (Err e) → IsNoSerializeError e
  no_serialize_error_of (SerializeError e) headed = absurd headed.leaves.0
  no_serialize_error_of (IoError e) headed = tt
  no_serialize_error_of TimeOutOfRange headed = tt
  no_serialize_error_of OutOfMemory headed = tt

  pub failed : (e : IntervalLogWriterError E) → Headed (Err e) → Begun (Err e)
  failed e headed = record {
    written = tt;
    lent = tt;
    time = subst (λ x. (x ≡ false) ↔ AreTimesInRange start) (same_time (Unit {0}) (IntervalLogWriter W S) e) headed.time;
    plain = λ same. subst (λ r. IfOk r (λ _. ⊥)) (headed.plain same) tt;
    no_serialize_error = no_serialize_error_of e headed;
  }

  pub begun_fact : {M : Type 1} {𝓤 : Ura M} (𝓛 : Logic 𝓤) (r : Result (IntervalLogWriter W S) (IntervalLogWriterError E)) → ent 𝓤 (begun_facts 𝓤 r) (fact 𝓤 (Begun r))
  begun_fact {𝓤 = 𝓤} 𝓛 r =
      qed 𝓛 ((raw (fact 𝓤 (Written r)) ⊛ raw (fact 𝓤 (Lent r)) ⊛ raw (fact 𝓤 (IsTimeError r)) ⊛ raw (fact 𝓤 (Plain r)) ⊛ raw (fact 𝓤 (IfErr r IsNoSerializeError))) ∷ []) ∵
      split ! $ heard ! (Written r) (λ written. split ! $ heard ! (Lent r) (λ lent. split ! $ heard ! (IsTimeError r) (λ time. split ! $ heard ! (Plain r) (λ plain. heard ! (IfErr r IsNoSerializeError) (λ other.
      noted ! (Begun r) (record { written = written; lent = lent; time = time; plain = plain; no_serialize_error = other }) $ done !)))))
