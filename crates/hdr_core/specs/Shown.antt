-- A histogram's fields, as the numbers that contracts speak of. (Our own: so that no contract names a field.)
use Rattle.std.specs.Prelude.{◌≡◌, ℕ, ◌-◌, ◌^◌}
use Rattle.hdr_base.specs.Classes.{resolution_of}
use Rattle.hdr_model.specs.Plain.{Plain, IsPlain}
use Rattle.hdr_core.specs.declared.histogram.Histogram.TheInside.{Inside}

abbrev pub plain_of : {T : Type 0} → Inside T → Plain
plain_of h = record {
  low = h.bounds.low;
  high = h.bounds.high;
  sigfig = h.bounds.sigfig;
  auto_resize = h.bounds.auto_resize;
  counts = h.counts.numbers;
  total = h.total;
  top_mark = h.marks.top;
  lower_mark = h.marks.lower;
}

-- what is true of the fields: the scale is that of the bounds, a block is half of the first bucket, and the numbers are a
-- histogram's
pub record IsHeld {T : Type 0} (greatest : ℕ) (h : Inside T) : Type 0 where
  pub scale : h.scale ≡ resolution_of h.bounds.low h.bounds.sigfig
  pub block : h.counts.block ≡ 2 ^ ((resolution_of h.bounds.low h.bounds.sigfig).digits - 1)
  pub plain : IsPlain greatest (plain_of h)
