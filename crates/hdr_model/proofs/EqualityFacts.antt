-- What equality of histograms means.
use Rattle.std.proofs.Common.{◌≡◌, Bool, true, eqb, eqb-true, ◌&&◌, get_or, refl, sym, ap, ◌∙◌}
use lib.Pointwise.{pointwise, bytes_decides}
use Rattle.hdr_model.specs.Plain.{Plain, max_of, min_nz_of}
use Rattle.hdr_model.specs.Equality.{without_end_zeros, same_plain, IsSame}
use Rattle.hdr_model.proofs.MergingKeeps.{both, eqb-yes}
use Rattle.hdr_model.proofs.EqualityZeros.{trimmed-at, trimmed-same}

all-same : (a b c d e f : Bool) → a ≡ true → b ≡ true → c ≡ true → d ≡ true → e ≡ true → f ≡ true → a && (b && (c && (d && (e && f)))) ≡ true
all-same a b c d e f p q r s t u = rw (p, q, r, s, t, u) refl

pub same-parts : (h k : Plain) → same_plain h k ≡ true → IsSame h k
same-parts h k e =
    let numbers = pointwise eqb (without_end_zeros h.counts) (without_end_zeros k.counts) in
    let least = eqb (min_nz_of h) (min_nz_of k) in
    let most = eqb (max_of h) (max_of k) in
    let total = eqb h.total k.total in
    let sigfig = eqb h.sigfig k.sigfig in
    let a = both (eqb h.low k.low) (sigfig && (total && (most && (least && numbers)))) e in
    let b = both sigfig (total && (most && (least && numbers))) a.1 in
    let c = both total (most && (least && numbers)) b.1 in
    let d = both most (least && numbers) c.1 in
    let f = both least numbers d.1 in
    record {
      low = eqb-true h.low k.low a.0;
      sigfig = eqb-true h.sigfig k.sigfig b.0;
      total = eqb-true h.total k.total c.0;
      max = eqb-true (max_of h) (max_of k) d.0;
      min_nz = eqb-true (min_nz_of h) (min_nz_of k) f.0;
      numbers = λ i. sym (trimmed-at h.counts i) ∙ ap (λ l. get_or l i 0) ((bytes_decides (without_end_zeros h.counts) (without_end_zeros k.counts)).0 f.1) ∙ trimmed-at k.counts i;
    }

pub parts-same : (h k : Plain) → IsSame h k → same_plain h k ≡ true
parts-same h k s =
    all-same (eqb h.low k.low) (eqb h.sigfig k.sigfig) (eqb h.total k.total) (eqb (max_of h) (max_of k)) (eqb (min_nz_of h) (min_nz_of k)) (pointwise eqb (without_end_zeros h.counts) (without_end_zeros k.counts))
    (eqb-yes h.low k.low s.low) (eqb-yes h.sigfig k.sigfig s.sigfig) (eqb-yes h.total k.total s.total) (eqb-yes (max_of h) (max_of k) s.max) (eqb-yes (min_nz_of h) (min_nz_of k) s.min_nz)
    ((bytes_decides (without_end_zeros h.counts) (without_end_zeros k.counts)).1 (trimmed-same h.counts k.counts s.numbers))

pub same-itself : (h : Plain) → same_plain h h ≡ true
same-itself h = parts-same h h (record { low = refl; sigfig = refl; total = refl; max = refl; min_nz = refl; numbers = λ i. refl })

pub same-turned : (h k : Plain) → same_plain h k ≡ true → same_plain k h ≡ true
same-turned h k e =
    let s = same-parts h k e in
    parts-same k h (record { low = sym s.low; sigfig = sym s.sigfig; total = sym s.total; max = sym s.max; min_nz = sym s.min_nz; numbers = λ i. sym (s.numbers i) })

pub same-through : (h k j : Plain) → same_plain h k ≡ true → same_plain k j ≡ true → same_plain h j ≡ true
same-through h k j e f =
    let s = same-parts h k e in
    let t = same-parts k j f in
    parts-same h j (record {
      low = s.low ∙ t.low;
      sigfig = s.sigfig ∙ t.sigfig;
      total = s.total ∙ t.total;
      max = s.max ∙ t.max;
      min_nz = s.min_nz ∙ t.min_nz;
      numbers = λ i. s.numbers i ∙ t.numbers i;
    })
