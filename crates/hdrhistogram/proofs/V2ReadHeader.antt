-- A header that is read field by field.
use Rattle.std.proofs.Common.{◌≡◌, ℕ, ◌+◌, ◌-◌, ◌<◌, ◌≤◌, Bool, true, false, cond, ltb, List, [], ◌∷◌, ◌++◌, length, drop, Option, Some, None, Result, Ok, Err, refl, sym, ap, ◌∙◌, subst, arith, length-append, length-drop, length-take-le, take, take-append-drop, append-nil, append_assoc, drop_at}
use Rattle.std.specs.Io.KnownBytes.{Consumes}
use Rattle.std.proofs.KnownBytes.{Consumes-trans}
use Rattle.std.proofs.lemmas.Bool.{ltb-true, ltb-false, le-ltb, lt-ltb}
use Rattle.std.proofs.lemmas.List.{take-append-le}
use Rattle.std.proofs.Math.Seq.{take-append-add}
use Rattle.byteorder.specs.Endian.{big_number}
use Rattle.byteorder.specs.Numbers.{big_from-append, big_from-take}
use Rattle.hdrhistogram.specs.Defects.{Defect, cut, ◌>>=◌, unless, FailsBy, TakesNoMore}
use Rattle.hdrhistogram.specs.V2Read.{Header, four_of, eight_of, four_at, eight_at, check_field, cookie_defect, offset_defect, sigfig_defect, ratio_defect, header_at}

-- ---- a field whose bytes were taken

-- decoding consumes a prefix of the text, and whatever follows that prefix does not change the
-- result
abbrev pub IsSteady : {A : Type 0} → (List ℕ → Result (A × List ℕ) Defect) → Type 0
IsSteady {A} p = (t rest : List ℕ) (x : A) → p t ≡ Ok (x, rest) → (front : List ℕ) × (t ≡ front ++ rest) × ((more : List ℕ) → p (front ++ more) ≡ Ok (x, more))

abbrev number_in : ℕ → List ℕ → Result (ℕ × List ℕ) Defect
number_in size t = cond (ltb (length t) size) (Err cut) (Ok (big_number size t, drop size t))

guard_ok : {A : Type 0} (b : Bool) (x y : A) → cond b (Err cut) (Ok x) ≡ Ok y → (b ≡ false) × (x ≡ y)
guard_ok true x y e = absurd cc
guard_ok false x y e = (refl, cc)

number-steady : (size : ℕ) → IsSteady (number_in size)
number-steady size t rest x e =
    let g = guard_ok (ltb (length t) size) (big_number size t, drop size t) (x, rest) e in
    let long : size ≤ length t = ltb-false _ _ g.0 in
    let front = take size t in
    let full : length front ≡ size = length-take-le size t long in
    let behind : drop size t ≡ rest = ap (λ (p : ℕ × List ℕ). p.1) g.1 in (
      front,
      sym (take-append-drop size t) ∙ ap (λ l. front ++ l) behind,
      λ more.
          let more_long : ltb (length (front ++ more)) size ≡ false = le-ltb _ _ (omega (arith, full, length-append front more)) in
          let number : big_number size (front ++ more) ≡ x = big_from-append size front more (omega (arith, full)) ∙ big_from-take 0 size size t (omega arith) ∙ ap (λ (p : ℕ × List ℕ). p.0) g.1 in
          rw (more_long, number, drop_at front more size full) refl,
    )

pub four-steady : IsSteady four_at
unfolding four_at four_of
four-steady = number-steady 4

pub eight-steady : IsSteady eight_at
unfolding eight_at eight_of
eight-steady = number-steady 8

pub four-short : (t : List ℕ) → length t < 4 → four_at t ≡ Err cut
unfolding four_at
four-short t h = rw (lt-ltb (length t) 4 h) refl

pub eight-short : (t : List ℕ) → length t < 8 → eight_at t ≡ Err cut
unfolding eight_at
eight-short t h = rw (lt-ltb (length t) 8 h) refl

pub four-cut : (t : List ℕ) → length t ≤ 4 → TakesNoMore four_at t
four-cut t h n few = four-short (take n t) (omega (arith, h, few, length-take-le n t (omega (arith, few))))

pub eight-cut : (t : List ℕ) → length t ≤ 8 → TakesNoMore eight_at t
eight-cut t h n few = eight-short (take n t) (omega (arith, h, few, length-take-le n t (omega (arith, few))))

pub four-whole : (t : List ℕ) (n : ℕ) → length t ≡ 4 → n ≡ big_number 4 t → four_at t ≡ Ok (n, [])
unfolding four_at four_of
four-whole t n e is =
    let long : ltb (length t) 4 ≡ false = le-ltb _ _ (omega arith) in
    let none : drop 4 t ≡ [] = drop_none t e in
    rw (long, none, is) refl
  where
    drop_none : (t : List ℕ) → length t ≡ 4 → drop 4 t ≡ []
    drop_none t e = nil_of (drop 4 t) (omega (arith, length-drop 4 t))
      where
        nil_of : (l : List ℕ) → length l ≡ 0 → l ≡ []
        nil_of [] h = refl
        nil_of (b ∷ l) h = absurd (omega arith)

pub eight-whole : (t : List ℕ) (n : ℕ) → length t ≡ 8 → n ≡ big_number 8 t → eight_at t ≡ Ok (n, [])
unfolding eight_at eight_of
eight-whole t n e is =
    let long : ltb (length t) 8 ≡ false = le-ltb _ _ (omega arith) in
    let none : drop 8 t ≡ [] = drop_none t e in
    rw (long, none, is) refl
  where
    drop_none : (t : List ℕ) → length t ≡ 8 → drop 8 t ≡ []
    drop_none t e = nil_of (drop 8 t) (omega (arith, length-drop 8 t))
      where
        nil_of : (l : List ℕ) → length l ≡ 0 → l ≡ []
        nil_of [] h = refl
        nil_of (b ∷ l) h = absurd (omega arith)

abbrev okay : ℕ × List ℕ → Result (ℕ × List ℕ) Defect
okay x = Ok x

pub checked_is : (defect : ℕ → Option Defect) (r : Result (ℕ × List ℕ) Defect) (y : ℕ × List ℕ) → check_field defect r ≡ Ok y → (r ≡ Ok y) × (defect y.0 ≡ None)
checked_is defect (Err e) y h = absurd cc
checked_is defect (Ok f) y h = got (defect f.0) refl h
  where
    got : (o : Option Defect) → defect f.0 ≡ o → unless o f ≡ okay y → (okay f ≡ okay y) × (defect y.0 ≡ None)
    got None e h = (h, (let same : f ≡ y = cc in subst (λ (g : ℕ × List ℕ). defect g.0 ≡ None) same e))
    got (Some g) e h = absurd cc

pub checked-steady : (defect : ℕ → Option Defect) (p : List ℕ → Result (ℕ × List ℕ) Defect) → IsSteady p → IsSteady (λ t. check_field defect (p t))
checked-steady defect p steady t rest x e =
    let h = checked_is defect (p t) (x, rest) e in
    let (front, parts, again) = steady t rest x h.0 in
    (front, parts, λ more. rw (again more) (rw (h.1) refl))

-- the value of a step that did not fail
pub bind_ok : {A B : Type 0} (r : Result A Defect) (f : A → Result B Defect) (y : B) → (r >>= f) ≡ Ok y → (x : A) × (r ≡ Ok x) × (f x ≡ Ok y)
bind_ok (Ok x) f y e = (x, refl, e)
bind_ok (Err d) f y e = absurd cc

pub bind-steady : {A B : Type 0} (p : List ℕ → Result (A × List ℕ) Defect) (q : A → List ℕ → Result (B × List ℕ) Defect) → IsSteady p → ((x : A) → IsSteady (q x)) → IsSteady (λ t. p t >>= λ y. q y.0 y.1)
bind-steady p q ps qs t rest x e =
    let (y, first, second) = bind_ok (p t) (λ y. q y.0 y.1) (x, rest) e in
    let (f, parts, again) = ps t y.1 y.0 first in
    let (g, parts', again') = qs y.0 y.1 rest x second in (
      f ++ g,
      parts ∙ ap (λ l. f ++ l) parts' ∙ sym (append_assoc f g rest),
      λ more. ap (λ l. p l >>= λ z. q z.0 z.1) (append_assoc f g more) ∙ ap (λ r. r >>= λ z. q z.0 z.1) (again (g ++ more)) ∙ again' more,
    )

-- a text that is consumed completely
pub steady_whole : {A : Type 0} (p : List ℕ → Result (A × List ℕ) Defect) → IsSteady p → (t more : List ℕ) (x : A) → p t ≡ Ok (x, []) → p (t ++ more) ≡ Ok (x, more)
steady_whole p steady t more x e =
    let (front, parts, again) = steady t [] x e in
    ap (λ l. p (l ++ more)) (parts ∙ append-nil front) ∙ again more

-- bytes were taken that are read as this
abbrev pub TakenBy : {A : Type 0} → Option (List ℕ) → Option (List ℕ) → (List ℕ → Result (A × List ℕ) Defect) → A → Type 0
TakenBy old new p x = (t : List ℕ) × Consumes old new t × (p t ≡ Ok (x, [])) × TakesNoMore p t

-- bytes were taken, and what they are read as has G
abbrev pub TakenSo : {B : Type 0} → Option (List ℕ) → Option (List ℕ) → (List ℕ → Result B Defect) → (Result B Defect → Type 0) → Type 0
TakenSo old new p G = (t : List ℕ) × Consumes old new t × G (p t) × TakesNoMore p t

-- if the prefix of a text is incomplete, so is what goes on with it
pub bind_cut : {A B : Type 0} (r : Result A Defect) (f : A → Result B Defect) → r ≡ Err cut → (r >>= f) ≡ Err cut
bind_cut r f e = rw e refl

-- a field, and then more, each of which takes no more than it needs
no_more : {A B : Type 0} (p : List ℕ → Result (A × List ℕ) Defect) (q : A → List ℕ → Result B Defect) (x : A) (t u : List ℕ) → IsSteady p → p t ≡ Ok (x, []) → TakesNoMore p t → TakesNoMore (q x) u
    → TakesNoMore (λ t. p t >>= λ y. q y.0 y.1) (t ++ u)
no_more p q x t u steady e m k n few = by_place (ltb n (length t)) refl
  where
    by_place : (b : Bool) → ltb n (length t) ≡ b → (p (take n (t ++ u)) >>= λ y. q y.0 y.1) ≡ Err cut
    by_place true is =
        let before : n < length t = ltb-true _ _ is in
        let front : take n (t ++ u) ≡ take n t = take-append-le n t u (omega (arith, before)) in
        bind_cut (p (take n (t ++ u))) (λ y. q y.0 y.1) (ap p front ∙ m n before)
    by_place false is =
        let behind : length t ≤ n = ltb-false _ _ is in
        let place : length t + (n - length t) ≡ n = omega (arith, behind) in
        let left : n - length t < length u = omega (arith, behind, few, length-append t u) in
        let front : take n (t ++ u) ≡ t ++ take (n - length t) u = ap (λ i. take i (t ++ u)) (sym place) ∙ take-append-add t u (n - length t) in
        ap (λ l. p l >>= λ y. q y.0 y.1) front ∙ (ap (λ r. r >>= λ y. q y.0 y.1) (steady_whole p steady t (take (n - length t) u) x e) ∙ k (n - length t) left)

pub checked-taken : (old new : Option (List ℕ)) (defect : ℕ → Option Defect) (p : List ℕ → Result (ℕ × List ℕ) Defect) (n : ℕ) → TakenBy old new p n → defect n ≡ None → TakenBy old new (λ t. check_field defect (p t)) n
checked-taken old new defect p n (t, q, e, m) fine = (t, q, rw e (rw fine refl), λ i few. bind_cut (p (take i t)) (λ f. unless (defect f.0) f) (m i few))

pub unless_fails : {A : Type 0} (o defect : Option Defect) (x : A) → FailsBy {A = ℕ} o (unless defect 0) → FailsBy o (unless defect x)
unless_fails None defect x h = tt
unless_fails (Some f) None x h = absurd cc
unless_fails (Some f) (Some g) x h = let same : g ≡ f = cc in ap Err same

-- the field was taken, and its check fails
pub checked-refused : (old new : Option (List ℕ)) (defect : ℕ → Option Defect) (p : List ℕ → Result (ℕ × List ℕ) Defect) (n : ℕ) (o : Option Defect) → TakenBy old new p n → FailsBy {A = ℕ} o (unless (defect n) 0)
    → TakenSo old new (λ t. check_field defect (p t)) (FailsBy o)
checked-refused old new defect p n o (t, q, e, m) h =
    (t, q, subst (λ r. FailsBy o (check_field defect r)) (sym e) (unless_fails o (defect n) (n, []) h), λ i few. bind_cut (p (take i t)) (λ f. unless (defect f.0) f) (m i few))

pub fails_bind : {A B : Type 0} (o : Option Defect) (r : Result A Defect) (f : A → Result B Defect) → FailsBy o r → FailsBy o (r >>= f)
fails_bind None r f h = tt
fails_bind (Some e) r f h = rw h refl

-- the field could not be taken
pub checked-failed : (old new : Option (List ℕ)) (defect : ℕ → Option Defect) (p : List ℕ → Result (ℕ × List ℕ) Defect) (o : Option Defect) → TakenSo old new p (FailsBy o) → TakenSo old new (λ t. check_field defect (p t)) (FailsBy o)
checked-failed old new defect p o (t, q, h, m) = (t, q, fails_bind o (p t) (λ f. unless (defect f.0) f) h, λ i few. bind_cut (p (take i t)) (λ f. unless (defect f.0) f) (m i few))

-- a field fails, and so what goes on with it
pub field-failed : {A B : Type 0} (old new : Option (List ℕ)) (p : List ℕ → Result (A × List ℕ) Defect) (q : A → List ℕ → Result B Defect) (o : Option Defect)
    → TakenSo old new p (FailsBy o) → TakenSo old new (λ t. p t >>= λ y. q y.0 y.1) (FailsBy o)
field-failed old new p q o (t, c, h, m) = (t, c, fails_bind o (p t) (λ y. q y.0 y.1) h, λ i few. bind_cut (p (take i t)) (λ y. q y.0 y.1) (m i few))

-- a field, and then more
pub field-then : {A B : Type 0} (old mid new : Option (List ℕ)) (p : List ℕ → Result (A × List ℕ) Defect) (q : A → List ℕ → Result B Defect) (x : A) (G : Result B Defect → Type 0)
    → IsSteady p → TakenBy old mid p x → TakenSo mid new (q x) G → TakenSo old new (λ t. p t >>= λ y. q y.0 y.1) G
field-then old mid new p q x G steady (t, c, e, m) (u, d, h, k) =
    (t ++ u, Consumes-trans old mid new t u c d, subst (λ r. G (r >>= λ y. q y.0 y.1)) (sym (steady_whole p steady t u x e)) h, no_more p q x t u steady e m k)

-- ---- the header's fields, from each on

abbrev pub from_ratio : ℕ → ℕ → ℕ → ℕ → List ℕ → Result (Header × List ℕ) Defect
from_ratio len sigfig low high text =
    check_field ratio_defect (eight_at text) >>= λ ratio. Ok (record { payload_len = len; sigfig = sigfig; low = low; high = high }, ratio.1)

abbrev pub from_high : ℕ → ℕ → ℕ → List ℕ → Result (Header × List ℕ) Defect
from_high len sigfig low text = eight_at text >>= λ high. from_ratio len sigfig low high.0 high.1

abbrev pub from_low : ℕ → ℕ → List ℕ → Result (Header × List ℕ) Defect
from_low len sigfig text = eight_at text >>= λ low. from_high len sigfig low.0 low.1

abbrev pub from_sigfig : ℕ → List ℕ → Result (Header × List ℕ) Defect
from_sigfig len text = check_field sigfig_defect (four_at text) >>= λ sigfig. from_low len sigfig.0 sigfig.1

abbrev pub from_offset : ℕ → List ℕ → Result (Header × List ℕ) Defect
from_offset len text = check_field offset_defect (four_at text) >>= λ offset. from_sigfig len offset.1

abbrev pub from_len : List ℕ → Result (Header × List ℕ) Defect
from_len text = four_at text >>= λ len. from_offset len.0 len.1

pub from_cookie : (old new : Option (List ℕ)) (G : Result (Header × List ℕ) Defect → Type 0) → TakenSo old new (λ text. check_field cookie_defect (four_at text) >>= λ cookie. from_len cookie.1) G → TakenSo old new header_at G
unfolding header_at
from_cookie old new G h = h

pub ok-steady : {A : Type 0} (x : A) → IsSteady (λ t. Ok (x, t))
ok-steady {A} x t rest y e =
    let both : ◌≡◌ {A = A × List ℕ} (x, t) (y, rest) = cc in
    let first : x ≡ y = ap (λ (p : A × List ℕ). p.0) both in
    ([], ap (λ (p : A × List ℕ). p.1) both, λ more. rw first refl)

-- what follows a header does not change it
pub header-steady : IsSteady header_at
unfolding header_at
header-steady =
    bind-steady (λ t. check_field cookie_defect (four_at t)) (λ _ t. from_len t) (checked-steady cookie_defect four_at four-steady) (λ _.
    bind-steady four_at from_offset four-steady (λ len.
    bind-steady (λ t. check_field offset_defect (four_at t)) (λ _ t. from_sigfig len t) (checked-steady offset_defect four_at four-steady) (λ _.
    bind-steady (λ t. check_field sigfig_defect (four_at t)) (from_low len) (checked-steady sigfig_defect four_at four-steady) (λ sigfig.
    bind-steady eight_at (from_high len sigfig) eight-steady (λ low.
    bind-steady eight_at (from_ratio len sigfig low) eight-steady (λ high.
    bind-steady (λ t. check_field ratio_defect (eight_at t)) (λ _ t. Ok (record { payload_len = len; sigfig = sigfig; low = low; high = high }, t)) (checked-steady ratio_defect eight_at eight-steady) (λ _.
    ok-steady (record { payload_len = len; sigfig = sigfig; low = low; high = high }))))))))

-- a header and the text after it
abbrev pub ended_header : ℕ → ℕ → ℕ → ℕ → ℕ → List ℕ → Result (Header × List ℕ) Defect
ended_header len sigfig low high ratio text = Ok (record { payload_len = len; sigfig = sigfig; low = low; high = high }, text)

-- a header with nothing after it
abbrev pub headed : ℕ → ℕ → ℕ → ℕ → Result (Header × List ℕ) Defect
headed len sigfig low high = Ok (record { payload_len = len; sigfig = sigfig; low = low; high = high }, [])

pub ratio-ends : (old new : Option (List ℕ)) (len sigfig low high ratio : ℕ) → TakenBy old new (λ t. check_field ratio_defect (eight_at t)) ratio
    → TakenSo old new (from_ratio len sigfig low high) (λ r. r ≡ headed len sigfig low high)
ratio-ends old new len sigfig low high ratio (t, c, e, m) =
    (t, c, rw e refl, λ i few. bind_cut (check_field ratio_defect (eight_at (take i t))) (λ ratio. Ok (record { payload_len = len; sigfig = sigfig; low = low; high = high }, ratio.1)) (m i few))

module _ (s0 s1 : Option (List ℕ)) (cookie : ℕ) (cookie_taken : TakenBy s0 s1 four_at cookie) (cookie_fine : cookie_defect cookie ≡ None) (new : Option (List ℕ)) (G : Result (Header × List ℕ) Defect → Type 0) where
  pub after_cookie : TakenSo s1 new from_len G → TakenSo s0 new header_at G
  after_cookie h =
      from_cookie s0 new G (field-then s0 s1 new (λ t. check_field cookie_defect (four_at t)) (λ _ t. from_len t) cookie G
      (checked-steady cookie_defect four_at four-steady) (checked-taken s0 s1 cookie_defect four_at cookie cookie_taken cookie_fine) h)

  module _ (s2 : Option (List ℕ)) (len : ℕ) (len_taken : TakenBy s1 s2 four_at len) where
    pub after_len : TakenSo s2 new (from_offset len) G → TakenSo s0 new header_at G
    after_len h = after_cookie (field-then s1 s2 new four_at from_offset len G four-steady len_taken h)

    module _ (s3 : Option (List ℕ)) (offset : ℕ) (offset_taken : TakenBy s2 s3 four_at offset) (offset_fine : offset_defect offset ≡ None) where
      pub after_offset : TakenSo s3 new (from_sigfig len) G → TakenSo s0 new header_at G
      after_offset h = after_len (field-then s2 s3 new (λ t. check_field offset_defect (four_at t)) (λ _ t. from_sigfig len t) offset G
          (checked-steady offset_defect four_at four-steady) (checked-taken s2 s3 offset_defect four_at offset offset_taken offset_fine) h)

      module _ (s4 : Option (List ℕ)) (sigfig : ℕ) (sigfig_taken : TakenBy s3 s4 four_at sigfig) (sigfig_fine : sigfig_defect sigfig ≡ None) where
        pub after_sigfig : TakenSo s4 new (from_low len sigfig) G → TakenSo s0 new header_at G
        after_sigfig h = after_offset (field-then s3 s4 new (λ t. check_field sigfig_defect (four_at t)) (from_low len) sigfig G
            (checked-steady sigfig_defect four_at four-steady) (checked-taken s3 s4 sigfig_defect four_at sigfig sigfig_taken sigfig_fine) h)

        module _ (s5 : Option (List ℕ)) (low : ℕ) (low_taken : TakenBy s4 s5 eight_at low) where
          pub after_low : TakenSo s5 new (from_high len sigfig low) G → TakenSo s0 new header_at G
          after_low h = after_sigfig (field-then s4 s5 new eight_at (from_high len sigfig) low G eight-steady low_taken h)

          module _ (s6 : Option (List ℕ)) (high : ℕ) (high_taken : TakenBy s5 s6 eight_at high) where
            pub after_high : TakenSo s6 new (from_ratio len sigfig low high) G → TakenSo s0 new header_at G
            after_high h = after_low (field-then s5 s6 new eight_at (from_ratio len sigfig low) high G eight-steady high_taken h)
