-- Parts of samples, of which two that follow one another become one.
use Rattle.std.proofs.Common.{◌≡◌, ℕ, ◌-◌, ◌^◌, ◌<◌, List, [], ◌∷◌, ◌++◌, length, sym, ap, subst, ◌∙◌, arith, refl, append-nil, append_assoc, eqb}
use Rattle.std.proofs.lemmas.List.{length-append}
use Rattle.std.proofs.lemmas.List.Sums.{count_by-le-length}
use Rattle.hdr_base.specs.Classes.{Resolution, IsFiner, bin_of}
use Rattle.hdr_model.specs.Plain.{Plain, resolution}
use Rattle.hdr_model.specs.Samples.{StandsFor, Fits, GainsSamples}
use Rattle.hdr_compare.specs.Parts.{AreParts, HaveClasses, KeepsParts}

pub keeps-both : (a b c : List Plain) → KeepsParts a b → KeepsParts b c → KeepsParts a c
keeps-both a b c one other = record {
  parts = λ g S classes few are. other.parts g S (one.classes g classes) few (one.parts g S classes few are);
  classes = λ g classes. other.classes g (one.classes g classes);
}

pub keeps-none : (a : List Plain) → KeepsParts a a
keeps-none a = record { parts = λ g S classes few are. are; classes = λ g classes. classes }

-- after a histogram
pub keeps-after : (h : Plain) (a b : List Plain) → KeepsParts a b → KeepsParts (h ∷ a) (h ∷ b)
keeps-after h a b keeps = record {
  parts = λ g S classes few are. (are.0, are.1, keeps.parts g are.0 classes.1 (omega (arith, few, length-append are.1.first are.0, ap length are.1.whole)) are.2);
  classes = λ g classes. (classes.0, keeps.classes g classes.1);
}

pub keeps-behind : (front a b : List Plain) → KeepsParts a b → KeepsParts (front ++ a) (front ++ b)
keeps-behind [] a b keeps = keeps
keeps-behind (h ∷ front) a b keeps = keeps-after h (front ++ a) (front ++ b) (keeps-behind front a b keeps)

-- samples that can be counted can be so in each class
pub fits-of : (g : Resolution) (S : List ℕ) → length S < 2 ^ 64 → Fits (2 ^ 64 - 1) g S
fits-of g S few = record {
  in_all = few;
  in_classes = λ i. omega (arith, few, count_by-le-length (λ s. eqb (bin_of g s) i) S);
}

-- two that follow one another become their sum
pub keeps-joined : (e b s : Plain) (rest : List Plain) → resolution s ≡ resolution e
    → ((L : List ℕ) → StandsFor b L → IsFiner (resolution b) (resolution e) → GainsSamples (2 ^ 64 - 1) e s L)
    → KeepsParts (e ∷ b ∷ rest) (s ∷ rest)
keeps-joined e b s rest same gains = record {
  parts = λ g S classes few are.
      let one = are.1 in
      let other = are.2.1 in
      let both = one.first ++ other.first in
      let whole : S ≡ both ++ are.2.0 = one.whole ∙ ap (λ rest. one.first ++ rest) other.whole ∙ sym (append_assoc one.first other.first are.2.0) in
      let small : length both < 2 ^ 64 = omega (arith, few, ap length whole, length-append both are.2.0) in
      let finer : IsFiner (resolution b) (resolution e) = subst (IsFiner (resolution b)) (classes.1.0 ∙ sym classes.0) (record { unit = omega arith; digits = omega arith }) in
      let stands = gains other.first other.stands finer one.first one.stands (fits-of (resolution e) both small) in
      (are.2.0, record { first = both; whole = whole; stands = stands }, are.2.2);
  classes = λ g classes. (same ∙ classes.0, classes.1.1);
}

-- the last histogram stands for more samples
pub last-gains : (front : List Plain) (h more : Plain) (S L : List ℕ) → length (S ++ L) < 2 ^ 64 → GainsSamples (2 ^ 64 - 1) h more L → AreParts S (front ++ h ∷ []) → AreParts (S ++ L) (front ++ more ∷ [])
last-gains [] h more S L few gains are =
    let first = are.1.first in
    let same : S ≡ first = are.1.whole ∙ ap (λ rest. first ++ rest) are.2 ∙ append-nil first in
    let small : length (first ++ L) < 2 ^ 64 = subst (λ (T : List ℕ). length (T ++ L) < 2 ^ 64) same few in (
      [],
      record {
        first = first ++ L;
        whole = ap (λ T. T ++ L) same ∙ sym (append-nil (first ++ L));
        stands = gains first are.1.stands (fits-of (resolution h) (first ++ L) small);
      },
      refl,
    )
last-gains (f ∷ front) h more S L few gains are =
    let first = are.1.first in
    let others = are.0 in
    let whole : S ++ L ≡ first ++ (others ++ L) = ap (λ T. T ++ L) are.1.whole ∙ append_assoc first others L in
    let small : length (others ++ L) < 2 ^ 64 = omega (arith, few, ap length whole, length-append first (others ++ L)) in
    (others ++ L, record { first = first; whole = whole; stands = are.1.stands }, last-gains front h more others L small gains are.2)

pub last-classes : (g : Resolution) (front : List Plain) (h more : Plain) → resolution more ≡ resolution h → HaveClasses g (front ++ h ∷ []) → HaveClasses g (front ++ more ∷ [])
last-classes g [] h more same classes = (same ∙ classes.0, classes.1)
last-classes g (f ∷ front) h more same classes = (classes.0, last-classes g front h more same classes.1)

-- the classes of the last histogram
pub end-class : (g : Resolution) (front : List Plain) (h : Plain) → HaveClasses g (front ++ h ∷ []) → resolution h ≡ g
end-class g [] h classes = classes.0
end-class g (f ∷ front) h classes = end-class g front h classes.1

-- one more stands for no samples
pub parts-end : (hs : List Plain) (h : Plain) (S : List ℕ) → StandsFor h [] → AreParts S hs → AreParts S (hs ++ h ∷ [])
parts-end [] h S stands none = ([], record { first = []; whole = none; stands = stands }, refl)
parts-end (f ∷ hs) h S stands are = (are.0, are.1, parts-end hs h are.0 stands are.2)

pub classes-end : (g : Resolution) (hs : List Plain) (h : Plain) → resolution h ≡ g → HaveClasses g hs → HaveClasses g (hs ++ h ∷ [])
classes-end g [] h same classes = (same, classes)
classes-end g (f ∷ hs) h same classes = (classes.0, classes-end g hs h same classes.1)
