use Rattle.std.proofs.Common.{◌≡◌, ℕ, ◌-◌, ◌*◌, ◌^◌, ◌≤◌, Result, Ok, Err, OnOk, List, ◌++◌, append_assoc, refl, string_bytes, arith}
use Rattle.hdr_draw.specs.Numbers.{IsNearest, IsDecimalOf, decimal_text, exponent}
use Rattle.hdr_draw.proofs.Decimals.{of_parts}
use Rattle.hdr_page.proofs.charts.rates.push_rate_label.Goals as goal

-- a number without zeros at its end, and its exponent
label : {T E : Type 0} (r : Result T E) (num den power p d q e : ℕ) (old mid new : List ℕ) → IsNearest num (den * 10 ^ power) (10 ^ d) p → e ≤ d → q * 10 ^ (d - e) ≡ p
    → mid ≡ old ++ decimal_text q e → OnOk r (new ≡ mid ++ exponent power) → OnOk r ((x : List ℕ) × IsDecimalOf num den x × (new ≡ old ++ x))
label (Ok v) num den power p d q e old mid new n l s a b = (decimal_text q e ++ exponent power, of_parts num den power p d q e n l s, rw (b, a, append_assoc) refl)
label (Err v) num den power p d q e old mid new n l s a b = tt

pub returns : goal.returns
returns c = λ f.
    let s = c.scientific-power.result in
    let t = c.trimmed.result in
    label c.push_exponent.result c.args.rate 1000 s.1 s.0.parts s.0.decimals t.parts t.decimals (string_bytes c.args.text.now) (string_bytes c.push.new.text)
    (string_bytes c.push_exponent.new.text) (c.scientific-power.ensures.nearest (omega arith) f) c.trimmed.ensures.few c.trimmed.ensures.same c.in_ok-push.ensures c.push_exponent.ensures
