-- A histogram that is read: its header, its bounds, its payload, its counts.
use Rattle.std.proofs.Common.{◌≡◌, ℕ, ◌+◌, ◌-◌, ◌*◌, ◌^◌, ◌<◌, ◌≤◌, Bool, true, false, cond, ltb, ◌&&◌, List, [], ◌++◌, length, replicate, take, drop, Option, Some, None, Result, Ok, Err, refl, sym, ap, ◌∙◌, subst, arith, length-append, length-take-le, take-append-drop, drop_at, drop_of_length-le, take_all}
use Rattle.std.specs.Io.KnownBytes.{Consumes}
use Rattle.std.proofs.KnownBytes.{Consumes-trans}
use Rattle.std.proofs.lemmas.Bool.{ltb-false, le-ltb, lt-ltb, le-leb, lt-leb}
use Rattle.std.proofs.lemmas.List.{take_at, length-replicate}
use Rattle.hdr_base.specs.Classes.{unit_of, digits_of, resolution_of, bins_to}
use Rattle.hdr_model.specs.Plain.{Plain, empty_plain}
use Rattle.hdr_model.specs.Unfinished.{Unfinished, unfinished_of}
use Rattle.hdr_model.specs.CallErrors.{IsBounds, IsCreationError}
use Rattle.hdr_model.specs.declared.errors.CreationError.{CreationError}
use Rattle.hdr_model.specs.declared.errors.CreationError.TheVariants as make
use Rattle.hdrhistogram.specs.declared.serialization.errors.DeserializeError.{DeserializeError}
use Rattle.hdrhistogram.specs.declared.serialization.errors.DeserializeError.TheVariants as errors
use Rattle.hdrhistogram.specs.Streams.{IsStreamError}
use Rattle.hdrhistogram.specs.Defects.{Defect, cut, bad_bounds, ◌>>=◌, unless, FailsBy, TakesNoMore, RunsOutOnly, defect_of_error}
use Rattle.hdrhistogram.proofs.DefectsMemory.{runs_out, names_out}
use Rattle.hdrhistogram.specs.PayloadRead.{counts_in}
use Rattle.hdrhistogram.specs.V2Read.{Header, Contents, bytes_at, header_at, are_bounds, bounds_defect, bins_for, creation_defect, contents_of, v2_at, builder_contents, histogram_contents, IsRestated, IsReadAs}
use Rattle.hdrhistogram.proofs.V2ReadHeader.{IsSteady, bind-steady, ok-steady, header-steady, TakenBy, TakenSo, field-then, field-failed, bind_cut, fails_bind, unless_fails}

-- ---- the bounds

pub bounds-yes : (low high sigfig : ℕ) → IsBounds low high sigfig → are_bounds low high sigfig ≡ true
unfolding are_bounds
bounds-yes low high sigfig b =
    rw (lt-ltb 0 low b.scale.not_zero, lt-ltb low (2 ^ 63) b.low_fits, le-leb (2 * low) high b.wide, le-leb sigfig 5 b.scale.digits, le-leb (unit_of low + digits_of sigfig) 63 b.scale.fits) refl

no_last : (a : Bool) → (a && false) ≡ false
no_last true = refl
no_last false = refl

no_fourth : (a b : Bool) → (a && false && b) ≡ false
no_fourth true b = refl
no_fourth false b = refl

no_third : (a b c : Bool) → (a && false && b && c) ≡ false
no_third true b c = refl
no_third false b c = refl

no_second : (a b c d : Bool) → (a && false && b && c && d) ≡ false
no_second true b c d = refl
no_second false b c d = refl

bounds-no : (low high sigfig : ℕ) (e : CreationError) (f : Defect) → IsCreationError low high sigfig e → creation_defect e ≡ Some f → are_bounds low high sigfig ≡ false
unfolding are_bounds
bounds-no low high sigfig make.LowIsZero f r n = rw (le-ltb 0 low (omega arith)) refl
bounds-no low high sigfig make.LowExceedsMax f r n = rw (le-ltb low (2 ^ 63) r) (no_second _ _ _ _)
bounds-no low high sigfig make.HighLessThanTwiceLow f r n = rw (lt-leb (2 * low) high r.2) (no_third _ _ _)
bounds-no low high sigfig make.SigFigExceedsMax f r n = rw (lt-leb sigfig 5 r.3) (no_fourth _ _)
bounds-no low high sigfig make.CannotRepresentSigFigBeyondLow f r n = rw (lt-leb (unit_of low + digits_of sigfig) 63 r.4) (no_last _)
bounds-no low high sigfig make.UsizeTypeTooSmall f r n = absurd r
bounds-no low high sigfig make.OutOfMemory f r n = absurd cc

pub defect-none : (h : Header) → are_bounds h.low h.high h.sigfig ≡ true → bounds_defect h ≡ None
unfolding bounds_defect
defect-none h e = rw e refl

pub defect-some : (h : Header) → are_bounds h.low h.high h.sigfig ≡ false → bounds_defect h ≡ Some bad_bounds
unfolding bounds_defect
defect-some h e = rw e refl

named_bad : (e : CreationError) (f : Defect) → creation_defect e ≡ Some f → f ≡ bad_bounds
named_bad make.LowIsZero f n = cc
named_bad make.LowExceedsMax f n = cc
named_bad make.HighLessThanTwiceLow f n = cc
named_bad make.SigFigExceedsMax f n = cc
named_bad make.CannotRepresentSigFigBeyondLow f n = cc
named_bad make.UsizeTypeTooSmall f n = cc
named_bad make.OutOfMemory f n = absurd cc

-- bounds that no histogram has are the defect of the header
pub bounds-refused : (h : Header) (e : CreationError) (o : Option Defect) → IsCreationError h.low h.high h.sigfig e → o ≡ creation_defect e → FailsBy {A = ℕ} o (unless (bounds_defect h) 0)
bounds-refused h e None r n = tt
bounds-refused h e (Some f) r n =
    let bad : f ≡ bad_bounds = named_bad e f (sym n) in
    ap (λ (p : Option Defect). unless p 0) (defect-some h (bounds-no h.low h.high h.sigfig e f r (sym n))) ∙ ap Err (sym bad)

-- if memory for the bins runs out, the bounds have no defect
pub bounds-memory : (h : Header) (e : CreationError) (r : DeserializeError) → IsCreationError h.low h.high h.sigfig e → defect_of_error r ≡ creation_defect e → RunsOutOnly (bounds_defect h ≡ None) r
bounds-memory h make.OutOfMemory r b n = runs_out (bounds_defect h ≡ None) r (defect-none h (bounds-yes h.low h.high h.sigfig b))
bounds-memory h make.LowIsZero r b n = names_out (bounds_defect h ≡ None) r n
bounds-memory h make.LowExceedsMax r b n = names_out (bounds_defect h ≡ None) r n
bounds-memory h make.HighLessThanTwiceLow r b n = names_out (bounds_defect h ≡ None) r n
bounds-memory h make.SigFigExceedsMax r b n = names_out (bounds_defect h ≡ None) r n
bounds-memory h make.CannotRepresentSigFigBeyondLow r b n = names_out (bounds_defect h ≡ None) r n
bounds-memory h make.UsizeTypeTooSmall r b n = names_out (bounds_defect h ≡ None) r n

-- the contents of empty bins
pub record IsMade (f : Unfinished) (low high sigfig : ℕ) : Type 0 where
  pub empty : f.counts ≡ replicate (length f.counts) 0
  pub fixed : f.auto_resize ≡ false
  pub contents : builder_contents f ≡ record { low = low; high = high; sigfig = sigfig; counts = f.counts }
  pub bins : length f.counts ≡ bins_to (resolution_of low sigfig) high

made : (low high sigfig : ℕ) → IsMade (unfinished_of (empty_plain low high sigfig false)) low high sigfig
unfolding empty_plain
made low high sigfig =
    let size = length-replicate {A = ℕ} (bins_to (resolution_of low sigfig) high) 0 in
    record { empty = ap (λ n. replicate n 0) (sym size); fixed = refl; contents = refl; bins = size }

pub is-made : (f : Unfinished) (low high sigfig : ℕ) → f ≡ unfinished_of (empty_plain low high sigfig false) → IsMade f low high sigfig
is-made f low high sigfig e = subst (λ g. IsMade g low high sigfig) (sym e) (made low high sigfig)

-- the same of the bins of a histogram of those bounds
pub is-spare : (f : Unfinished) (a b d low high sigfig : ℕ) → f ≡ unfinished_of (empty_plain a b d false) → a ≡ low → b ≡ high → d ≡ sigfig → IsMade f low high sigfig
is-spare f a b d low high sigfig e x y z =
    is-made f low high sigfig (e ∙ ap (λ l. unfinished_of (empty_plain l b d false)) x ∙ ap (λ h. unfinished_of (empty_plain low h d false)) y ∙ ap (λ n. unfinished_of (empty_plain low high n false)) z)

-- ---- the steps

abbrev pub from_counts : ℕ → Header → List ℕ → List ℕ → Result (Contents × List ℕ) Defect
from_counts greatest header payload text = counts_in (bins_for header) greatest payload >>= λ counts. Ok (contents_of header counts, text)

abbrev pub from_payload : ℕ → Header → List ℕ → Result (Contents × List ℕ) Defect
from_payload greatest header text = bytes_at header.payload_len text >>= λ payload. from_counts greatest header payload.0 payload.1

abbrev pub from_bounds : ℕ → Header → List ℕ → Result (Contents × List ℕ) Defect
from_bounds greatest header text = unless (bounds_defect header) header >>= λ header. from_payload greatest header text

pub from_header : (old new : Option (List ℕ)) (greatest : ℕ) (G : Result (Contents × List ℕ) Defect → Type 0) → TakenSo old new (λ t. header_at t >>= λ f. from_bounds greatest f.0 f.1) G → TakenSo old new (v2_at greatest) G
unfolding v2_at
from_header old new greatest G h = h

guard_ok : {A : Type 0} (b : Bool) (x y : A) → cond b (Err cut) (Ok x) ≡ Ok y → (b ≡ false) × (x ≡ y)
guard_ok true x y e = absurd cc
guard_ok false x y e = (refl, cc)

bytes-steady : (size : ℕ) → IsSteady (bytes_at size)
unfolding bytes_at
bytes-steady size t rest x e =
    let g = guard_ok (ltb (length t) size) (take size t, drop size t) (x, rest) e in
    let long : size ≤ length t = ltb-false _ _ g.0 in
    let front = take size t in
    let full : length front ≡ size = length-take-le size t long in
    let behind : drop size t ≡ rest = ap (λ (p : List ℕ × List ℕ). p.1) g.1 in
    let taken : front ≡ x = ap (λ (p : List ℕ × List ℕ). p.0) g.1 in (
      front,
      sym (take-append-drop size t) ∙ ap (λ l. front ++ l) behind,
      λ more.
          let more_long : ltb (length (front ++ more)) size ≡ false = le-ltb _ _ (omega (arith, full, length-append front more)) in
          rw (more_long, take_at front more size full, drop_at front more size full, taken) refl,
    )

counts-steady : (header : Header) (r : Result (List ℕ) Defect) → IsSteady (λ t. r >>= λ counts. Ok (contents_of header counts, t))
counts-steady header (Err f) t rest x e = absurd cc
counts-steady header (Ok counts) t rest x e = ok-steady (contents_of header counts) t rest x e

bounds-steady : (greatest : ℕ) (header : Header) (o : Option Defect) → IsSteady (λ t. unless o header >>= λ header. from_payload greatest header t)
bounds-steady greatest header (Some f) t rest x e = absurd cc
bounds-steady greatest header None t rest x e =
    bind-steady (bytes_at header.payload_len) (from_counts greatest header) (bytes-steady header.payload_len) (λ payload. counts-steady header (counts_in (bins_for header) greatest payload)) t rest x e

-- what follows a histogram does not change it, and decoding consumes a prefix
pub v2-steady : (greatest : ℕ) → IsSteady (v2_at greatest)
unfolding v2_at
v2-steady greatest = bind-steady header_at (from_bounds greatest) header-steady (λ header. bounds-steady greatest header (bounds_defect header))

-- ---- a reader's bytes

pub header-failed : (old new : Option (List ℕ)) (greatest : ℕ) (o : Option Defect) → TakenSo old new header_at (FailsBy o) → TakenSo old new (v2_at greatest) (FailsBy o)
header-failed old new greatest o h = from_header old new greatest (λ r. FailsBy o r) (field-failed old new header_at (from_bounds greatest) o h)

pub bounds-failed : (old new : Option (List ℕ)) (greatest : ℕ) (header : Header) (o : Option Defect) → TakenBy old new header_at header → FailsBy {A = ℕ} o (unless (bounds_defect header) 0) → TakenSo old new (v2_at greatest) (FailsBy o)
bounds-failed old new greatest header o (t, q, e, m) h =
    from_header old new greatest (λ r. FailsBy o r) (
      t,
      q,
      subst (λ (r : Result (Header × List ℕ) Defect). FailsBy o (r >>= λ f. from_bounds greatest f.0 f.1)) (sym e)
          (fails_bind o (unless (bounds_defect header) header) (λ header. from_payload greatest header []) (unless_fails o (bounds_defect header) header h)),
      λ i few. bind_cut (header_at (take i t)) (λ f. from_bounds greatest f.0 f.1) (m i few),
    )

module _ (s0 s1 : Option (List ℕ)) (greatest : ℕ) (header : Header) (header_taken : TakenBy s0 s1 header_at header) (fine : bounds_defect header ≡ None) (new : Option (List ℕ)) where
  after_bounds : (G : Result (Contents × List ℕ) Defect → Type 0) → TakenSo s1 new (from_payload greatest header) G → TakenSo s0 new (v2_at greatest) G
  after_bounds G (t, q, h, m) =
      from_header s0 new greatest G (field-then s0 s1 new header_at (from_bounds greatest) header G header-steady header_taken (
        t,
        q,
        subst (λ (o : Option Defect). G (unless o header >>= λ header. from_payload greatest header t)) (sym fine) h,
        λ i few. subst (λ (o : Option Defect). (unless o header >>= λ header. from_payload greatest header (take i t)) ≡ Err cut) (sym fine) (m i few),
      ))

  pub payload-failed : (o : Option Defect) → TakenSo s1 new (bytes_at header.payload_len) (FailsBy o) → TakenSo s0 new (v2_at greatest) (FailsBy o)
  payload-failed o h = after_bounds (λ r. FailsBy o r) (field-failed s1 new (bytes_at header.payload_len) (from_counts greatest header) o h)

  pub counts-failed : (payload : List ℕ) (o : Option Defect) → TakenBy s1 new (bytes_at header.payload_len) payload → FailsBy o (counts_in (bins_for header) greatest payload) → TakenSo s0 new (v2_at greatest) (FailsBy o)
  counts-failed payload o (t, q, e, m) h =
      after_bounds (λ r. FailsBy o r) (
        t,
        q,
        subst (λ (r : Result (List ℕ × List ℕ) Defect). FailsBy o (r >>= λ p. from_counts greatest header p.0 p.1)) (sym e)
            (fails_bind o (counts_in (bins_for header) greatest payload) (λ counts. Ok (contents_of header counts, [])) h),
        λ i few. bind_cut (bytes_at header.payload_len (take i t)) (λ p. from_counts greatest header p.0 p.1) (m i few),
      )

  pub whole-taken : (payload counts : List ℕ) → TakenBy s1 new (bytes_at header.payload_len) payload → counts_in (bins_for header) greatest payload ≡ Ok counts
      → TakenBy s0 new (v2_at greatest) (contents_of header counts)
  whole-taken payload counts (t, q, e, m) h =
      after_bounds (λ r. r ≡ Ok (contents_of header counts, []))
      (t, q, rw e (rw h refl), λ i few. bind_cut (bytes_at header.payload_len (take i t)) (λ p. from_counts greatest header p.0 p.1) (m i few))

-- contents with nothing after them
abbrev pub whole : Contents → Result (Contents × List ℕ) Defect
whole c = Ok (c, [])

-- ---- what was read

pub is-read : (greatest : ℕ) (text rest : List ℕ) (h : Plain) (taken : ℕ) → v2_at greatest text ≡ Ok (histogram_contents h, rest) → h.auto_resize ≡ false → IsRestated h → taken ≡ length text - length rest → IsReadAs greatest text h taken
is-read greatest text rest h taken e fixed restated is =
    let (front, parts, again) = v2-steady greatest text rest (histogram_contents h) e in
    let size : length text ≡ length front + length rest = ap (length {A = ℕ}) parts ∙ length-append front rest in
    let same : length front ≡ taken = omega arith in
    let behind : drop taken text ≡ rest = ap (drop taken) parts ∙ drop_at front rest taken same in
    record {
      contents = histogram_contents h;
      read = e ∙ ap (λ l. Ok (histogram_contents h, l)) (sym behind);
      within = omega arith;
      histogram = record { contents = refl; fixed = fixed; restated = restated };
    }

pub no_longer : (greatest : ℕ) (text rest : List ℕ) (c : Contents) → v2_at greatest text ≡ Ok (c, rest) → length rest ≤ length text
no_longer greatest text rest c e =
    let (front, parts, again) = v2-steady greatest text rest c e in
    omega (arith, ap (length {A = ℕ}) parts, length-append front rest)

-- ---- a payload that is read

pub stream_fails : {A : Type 0} (e : DeserializeError) (r : Result A Defect) → IsStreamError e → r ≡ Err cut → FailsBy (defect_of_error e) r
stream_fails (errors.IoError cause) r s h = h
stream_fails errors.OutOfMemory r s h = tt
stream_fails errors.InvalidCookie r s h = absurd s
stream_fails errors.UnsupportedFeature r s h = absurd s
stream_fails errors.UnsuitableCounterType r s h = absurd s
stream_fails errors.InvalidParameters r s h = absurd s
stream_fails errors.UsizeTypeTooSmall r s h = absurd s
stream_fails errors.EncodedArrayTooLong r s h = absurd s

pub bytes-short : (len : ℕ) (t : List ℕ) → length t < len → bytes_at len t ≡ Err cut
unfolding bytes_at
bytes-short len t h = rw (lt-ltb (length t) len h) refl

pub bytes-cut : (len : ℕ) (t : List ℕ) → length t ≤ len → TakesNoMore (bytes_at len) t
bytes-cut len t h n few = bytes-short len (take n t) (omega (arith, h, few, length-take-le n t (omega (arith, few))))

pub bytes-whole : (len : ℕ) (t : List ℕ) → length t ≡ len → bytes_at len t ≡ Ok (t, [])
unfolding bytes_at
bytes-whole len t e =
    let long : ltb (length t) len ≡ false = le-ltb _ _ (omega arith) in
    rw (long, take_all len t (omega arith), drop_of_length-le t {i = len} (omega arith)) refl

pub piece-taken : (s0 s1 s2 : Option (List ℕ)) (old new bytes : List ℕ) → Consumes s0 s1 old → new ≡ old ++ bytes → Consumes s1 s2 bytes → Consumes s0 s2 new
piece-taken s0 s1 s2 old new bytes p e q = subst (Consumes s0 s2) (sym e) (Consumes-trans s0 s1 s2 old bytes p q)
