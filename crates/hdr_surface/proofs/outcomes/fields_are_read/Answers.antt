use Rattle.std.proofs.Common.{◌<◌, ◌^◌, ◌≤◌, ℕ, List, length, Result, Ok, Err}
use Rattle.std.specs.Prelude.{IfOk}
use Rattle.hdr_base.specs.Classes.{most_bins}
use Rattle.hdr_model.specs.Plain.{Plain, IsPlain, OfEachPlain, max_of}
use Rattle.hdrhistogram.specs.V2Read.{IsReadAs, ReadsV2}
use Rattle.hdrhistogram.specs.declared.serialization.errors.DeserializeError.{DeserializeError}
use Rattle.hdr_surface.proofs.outcomes.fields_are_read.Goals as goal

abbrev IsBounded : ℕ → Plain → Type 0
IsBounded greatest h = IsPlain greatest h × (length h.counts ≤ most_bins) × (max_of h < 2 ^ 64)

bounded : (greatest : ℕ) (bytes : List ℕ) → ((taken : ℕ) (h : Plain) → IsReadAs greatest bytes h taken → IsPlain greatest h) → OfEachPlain (λ greatest h. length h.counts ≤ most_bins) → OfEachPlain (λ greatest h. max_of h < 2 ^ 64)
    → (found : Result (Plain × ℕ) DeserializeError) → ReadsV2 greatest bytes found → IfOk found (λ f. IsBounded greatest f.0)
bounded greatest bytes plain bins max (Ok f) read = let p = plain f.1 f.0 read in (p, bins greatest f.0 p, max greatest f.0 p)
bounded greatest bytes plain bins max (Err e) read = tt

pub returns : goal.returns
returns c = λ greatest field bytes decoded.
    let read = c.bytes_are_read.ensures.exists greatest bytes in
    let plain : (taken : ℕ) (h : Plain) → IsReadAs greatest bytes h taken → IsPlain greatest h = λ taken h. c.bytes_are_read.ensures.plain greatest taken bytes h (c.base64_is_read.ensures.bytes field bytes decoded) in
    (read.0, read.1, bounded greatest bytes plain c.bins_and_max_are_bounded.ensures.bins c.bins_and_max_are_bounded.ensures.max read.0 read.1)
