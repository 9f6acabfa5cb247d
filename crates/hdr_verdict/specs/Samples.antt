-- The samples of a tag's cells, each as the greatest value of its class.
use Rattle.std.specs.Prelude.{◌≡◌, ℕ, ◌-◌, ◌^◌, ◌<◌, List, [], length, map, max, min}
use Rattle.std.specs.List.{AllZip, flat_map, fold, slice_range, sum_by}
use Rattle.hdr_base.specs.Classes.{Resolution, resolution_of, top_of, IsFiner}
use Rattle.hdr_model.specs.Plain.{Plain, resolution}
use Rattle.hdr_model.specs.Samples.{StandsFor}
use Rattle.hdrhistogram.specs.FieldRead.{IsHeldIn}
use Rattle.hdr_logs.specs.Stored.{view_of_stored}
use Rattle.hdr_logs.specs.declared.stored.StoredInterval.{StoredInterval}
use Rattle.hdr_verdict.specs.declared.cell.Cell.{Cell}
use Rattle.hdr_verdict.specs.declared.width.Width.{Width}

-- what an interval holds: the lowest value and the digits of its histogram, and its samples
pub record Held : Type 0 where
  pub low : ℕ
  pub sigfig : ℕ
  pub samples : List ℕ

abbrev pub nothing_held : Held
nothing_held = record { low = 0; sigfig = 0; samples = [] }

-- a histogram is what is held
pub record IsOf (held : Held) (h : Plain) : Type 0 where
  pub low : h.low ≡ held.low
  pub sigfig : h.sigfig ≡ held.sigfig
  pub samples : StandsFor h held.samples

-- the histogram of an interval is what is held
abbrev pub Holds : StoredInterval → Held → Type 0
Holds interval held = (h : Plain) → IsHeldIn (2 ^ 64 - 1) (view_of_stored interval).field h → IsOf held h

-- the intervals hold these
abbrev pub AreHeld : List StoredInterval → List Held → Type 0
AreHeld intervals all = AllZip Holds intervals all

-- the width of classes that have the classes of both in them
abbrev pub joined_width : Width → Held → Width
joined_width width held = record { low = max width.low held.low; sigfig = min width.sigfig held.sigfig }

abbrev pub finest : Width
finest = record { low = 1; sigfig = 5 }

abbrev pub width_of : List Held → Width
width_of all = fold joined_width finest all

abbrev pub classes_of : Width → Resolution
classes_of width = resolution_of width.low width.sigfig

-- samples, each as the greatest value of its class
abbrev pub rounded : Width → List ℕ → List ℕ
rounded width S = map (top_of (classes_of width)) S

-- the samples of the intervals from the index `first` to before the index `next`
abbrev pub samples_between : List Held → (first next : ℕ) → List ℕ
samples_between all first next = flat_map (λ held. held.samples) (slice_range all first next)

-- the samples of cells
abbrev pub samples_of_cells : List Held → Width → List Cell → List (List ℕ)
samples_of_cells all width cells = map (λ cell. rounded width (samples_between all cell.first cell.next)) cells

-- a histogram stands for samples that are these if each is the greatest value of its class, and its classes lie in those
pub record Rounds (width : Width) (h : Plain) (S : List ℕ) : Type 0 where
  pub finer : IsFiner (resolution h) (classes_of width)
  pub exact : List ℕ
  pub stands : StandsFor h exact
  pub is : S ≡ rounded width exact

-- the number of samples of all cells fits 64 bits
abbrev pub CanCount : List (List ℕ) → Type 0
CanCount cells = sum_by length cells < 2 ^ 64
