-- The classes of a sum, and the number of coarser histograms.
use Rattle.std.proofs.Common.{◌≡◌, ◌∙◌, ℕ, Bool, true, false, ◌&&◌, cond, leb, List, [], ◌∷◌, ◌++◌, refl, arith, eqb, ◌↔◌}
use Rattle.std.specs.List.{AllByRecursion}
use Rattle.std.proofs.lemmas.Bool.Decides.{nat_tests}
use Rattle.hdr_base.specs.Classes.{Resolution, IsFiner}
use Rattle.hdr_model.specs.Plain.{Plain, resolution, max_of}
use Rattle.hdr_model.specs.Recording.{after_records}
use Rattle.hdr_model.specs.Merging.{after_add, after_add_within, after_add_same_bins, same_bins, with_room, classes_from, top_class}
use Rattle.hdr_model.proofs.MergingStands.{resolution-each, resolution-with_room}
use Rattle.hdrhistogram.specs.LogMerging.{one_if_coarser, coarser_of}

resolution-within : (greatest : ℕ) (h s : Plain) → resolution (after_add_within greatest h s) ≡ resolution h
unfolding after_add_within after_add_same_bins
resolution-within greatest h s =
    let ts = classes_from (resolution s) 0 s.counts ++ top_class (resolution s) s.top_mark in
    step (same_bins h s) (after_add_same_bins greatest h s) (after_records greatest h ts) refl (resolution-each greatest h ts)
  where
    step : (b : Bool) (j r : Plain) → resolution j ≡ resolution h → resolution r ≡ resolution h → resolution (cond b j r) ≡ resolution h
    step true j r e f = e
    step false j r e f = f

pub resolution-added : (greatest : ℕ) (h s : Plain) → resolution (after_add greatest h s) ≡ resolution h
unfolding after_add
resolution-added greatest h s =
    step (eqb s.total 0) (after_add_within greatest (with_room h (max_of s)) s) (resolution-within greatest (with_room h (max_of s)) s ∙ resolution-with_room h (max_of s))
  where
    step : (b : Bool) (r : Plain) → resolution r ≡ resolution h → resolution (cond b h r) ≡ resolution h
    step true r e = refl
    step false r e = e

abbrev mark : Bool → ℕ
mark b = cond b 0 1

pub none_if_finer : (g : Resolution) (h : Plain) → IsFiner (resolution h) g → one_if_coarser g h ≡ 0
unfolding one_if_coarser
none_if_finer g h f =
    let unit : leb (resolution h).unit g.unit ≡ true = (let le = f.unit in grind (arith, nat_tests)) in
    let digits : leb g.digits (resolution h).digits ≡ true = (let le = f.digits in grind (arith, nat_tests)) in
    rw (unit, digits) refl

pub finer_if_none : (g : Resolution) (h : Plain) → one_if_coarser g h ≡ 0 → IsFiner (resolution h) g
unfolding one_if_coarser
finer_if_none g h e = record {
  unit = (let b = both (leb (resolution h).unit g.unit) (leb g.digits (resolution h).digits) e in let u = b.0 in grind (arith, nat_tests));
  digits = (let b = both (leb (resolution h).unit g.unit) (leb g.digits (resolution h).digits) e in let d = b.1 in grind (arith, nat_tests));
}
  where
    both : (b c : Bool) → mark (b && c) ≡ 0 → (b ≡ true) × (c ≡ true)
    both true true e = (refl, refl)
    both true false e = absurd (omega (arith, e))
    both false c e = absurd (omega (arith, e))

pub one_unless_finer : (g : Resolution) (h : Plain) → (IsFiner (resolution h) g → ⊥) → one_if_coarser g h ≡ 1
unfolding one_if_coarser
one_unless_finer g h refuted = step (leb (resolution h).unit g.unit && leb g.digits (resolution h).digits) finer
  where
    finer : mark (leb (resolution h).unit g.unit && leb g.digits (resolution h).digits) ≡ 0 → ⊥
    finer e = refuted (finer_if_none g h e)

    step : (b : Bool) → (mark b ≡ 0 → ⊥) → mark b ≡ 1
    step true f = absurd (f refl)
    step false f = refl

all_finer : (g : Resolution) (hs : List Plain) → coarser_of g hs ≡ 0 → AllByRecursion (λ (h : Plain). IsFiner (resolution h) g) hs
all_finer g [] e = tt
all_finer g (h ∷ hs) e = (finer_if_none g h (omega (arith, e)), all_finer g hs (omega (arith, e)))

none_coarser : (g : Resolution) (hs : List Plain) → AllByRecursion (λ (h : Plain). IsFiner (resolution h) g) hs → coarser_of g hs ≡ 0
none_coarser g [] a = refl
none_coarser g (h ∷ hs) a = omega (arith, none_if_finer g h a.0, none_coarser g hs a.1)

-- none is coarser exactly if all are finer
pub none_is_coarser : (g : Resolution) (hs : List Plain) → (coarser_of g hs ≡ 0) ↔ AllByRecursion (λ (h : Plain). IsFiner (resolution h) g) hs
none_is_coarser g hs = (all_finer g hs, none_coarser g hs)
