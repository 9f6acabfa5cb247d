-- The sum of the numbers is how many samples there are.
use Rattle.std.proofs.Common.{◌≡◌, ℕ, ◌<◌, ◌≤◌, List, length, sum, sym, ap, ◌∙◌, arith}
use Rattle.std.specs.List.{All}
use Rattle.std.proofs.lemmas.List.Elements.{All-weaker}
use Rattle.std.proofs.lemmas.List.{take_all}
use Rattle.hdr_base.specs.Classes.{bin_of}
use Rattle.hdr_model.specs.Plain.{Plain, IsPlain, resolution, reach}
use Rattle.hdr_model.specs.Samples.{StandsFor}
use Rattle.hdr_model.proofs.PlainKept.{room-in}
use Rattle.hdr_model.proofs.QuantilesOrder.{running, in_first-all}

pub sum-counted : (greatest : ℕ) (h : Plain) (S : List ℕ) → IsPlain greatest h → StandsFor h S → sum h.counts ≡ length S
sum-counted greatest h S p s =
    let n = length h.counts in
    let all : All (λ x. bin_of (resolution h) x < n) S = All-weaker (λ x. x ≤ reach h) (λ x. bin_of (resolution h) x < n) (λ x le. room-in greatest h x p le) S s.within in
    ap (λ l. sum l) (sym (take_all n h.counts (omega arith))) ∙ running h S n s (omega arith) ∙ in_first-all (resolution h) n S all
