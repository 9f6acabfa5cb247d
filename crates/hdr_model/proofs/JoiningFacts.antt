-- Histograms that are added in order.
use Rattle.std.proofs.Common.{◌≡◌, ℕ, cond, eqb, ◌+◌, ◌≤◌, List, [], ◌∷◌, ◌++◌, refl, ap, sym, subst, append_assoc, length-append, arith}
use Rattle.std.proofs.lemmas.List.Sums.{sum_by-append}
use Rattle.hdr_base.specs.Classes.{Resolution, IsFiner, bin_of}
use Rattle.hdr_model.specs.Plain.{Plain, IsPlain, resolution}
use Rattle.hdr_model.specs.Merging.{after_add}
use Rattle.hdr_model.specs.Samples.{StandsFor, Fits, in_class}
use Rattle.hdr_model.specs.Joining.{AreParts, joined_samples, after_adds}

-- a prefix of what fits
front_fits : (m : ℕ) (g : Resolution) (A B : List ℕ) → Fits m g (A ++ B) → Fits m g A
front_fits m g A B f = record {
  in_all = omega (arith, f.in_all, length-append A B);
  in_classes = λ i. let split : in_class g i (A ++ B) ≡ in_class g i A + in_class g i B = sum_by-append (λ s. cond (eqb (bin_of g s) i) 1 0) A B in omega (arith, f.in_classes i, split);
}

-- what adding does to samples
abbrev pub Adds : Type 0
Adds = (greatest most : ℕ) (h s : Plain) (S L : List ℕ) → 1 ≤ greatest → IsPlain greatest h → IsPlain most s → StandsFor h S → StandsFor s L
    → IsFiner (resolution s) (resolution h) → Fits greatest (resolution h) (S ++ L) → StandsFor (after_add greatest h s) (S ++ L)

-- what adding keeps
pub record AddsPlain : Type 0 where
  pub plain : (greatest most : ℕ) (h s : Plain) → 1 ≤ greatest → IsPlain greatest h → IsPlain most s → IsPlain greatest (after_add greatest h s)
  pub classes : (greatest most : ℕ) (h s : Plain) → IsPlain most s → resolution (after_add greatest h s) ≡ resolution h

nothing_behind : (S : List ℕ) → S ++ [] ≡ S
nothing_behind [] = refl
nothing_behind (x ∷ S) = ap (λ l. x ∷ l) (nothing_behind S)

pub each_added : Adds → (greatest most : ℕ) (h : Plain) (ks : List Plain) (S : List ℕ) (Ls : List (List ℕ)) → AddsPlain → 1 ≤ greatest → IsPlain greatest h → StandsFor h S → AreParts most (resolution h) ks Ls → Fits greatest (resolution h) (S ++ joined_samples Ls)
    → StandsFor (after_adds greatest h ks) (S ++ joined_samples Ls) × IsPlain greatest (after_adds greatest h ks)
each_added adds greatest most h [] S [] keeps one p s parts f = (subst (StandsFor h) (sym (nothing_behind S)) s, p)
each_added adds greatest most h [] S (L ∷ Ls) keeps one p s parts f = absurd parts
each_added adds greatest most h (k ∷ ks) S [] keeps one p s parts f = absurd parts
each_added adds greatest most h (k ∷ ks) S (L ∷ Ls) keeps one p s parts f =
    let first = parts.0 in
    let whole : S ++ (L ++ joined_samples Ls) ≡ (S ++ L) ++ joined_samples Ls = sym (append_assoc S L (joined_samples Ls)) in
    let fits : Fits greatest (resolution h) ((S ++ L) ++ joined_samples Ls) = subst (Fits greatest (resolution h)) whole f in
    let stands : StandsFor (after_add greatest h k) (S ++ L) = adds greatest most h k S L one p first.plain s first.stands first.finer (front_fits greatest (resolution h) (S ++ L) (joined_samples Ls) fits) in
    let same : resolution h ≡ resolution (after_add greatest h k) = sym (keeps.classes greatest most h k first.plain) in
    let P : Resolution → Type 0 = λ g. AreParts most g ks Ls in
    let F : Resolution → Type 0 = λ g. Fits greatest g ((S ++ L) ++ joined_samples Ls) in
    let rest = each_added adds greatest most (after_add greatest h k) ks (S ++ L) Ls keeps one (keeps.plain greatest most h k one p first.plain) stands (subst P same parts.1) (subst F same fits) in
    (subst (StandsFor (after_adds greatest h (k ∷ ks))) (sym whole) rest.0, rest.1)
