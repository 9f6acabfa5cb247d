-- The texts of pieces of one line.
use Rattle.std.proofs.Common.{◌≡◌, ℕ, List, Option, Result, Ok, Err, OnOk}
use Rattle.hdr_log.specs.Texts.{with_line_feed, start_line, base_line, divisor_line, interval_line}
use Rattle.hdr_log.specs.Pieces.{StartsAt, BasedAt, Divided, Measured, piece_text}
use Rattle.hdr_log.proofs.TextsComments.{append_nothing}

pub on_ok : {A E P Q : Type 0} (r : Result A E) → (P → Q) → OnOk r P → OnOk r Q
on_ok (Ok x) f h = f h
on_ok (Err e) f h = tt

pub startsat_text : (t : ℕ) → piece_text (StartsAt t) ≡ with_line_feed (start_line t)
unfolding piece_text
startsat_text t = append_nothing (with_line_feed (start_line t))

pub basedat_text : (t : ℕ) → piece_text (BasedAt t) ≡ with_line_feed (base_line t)
unfolding piece_text
basedat_text t = append_nothing (with_line_feed (base_line t))

pub divided_text : (d : ℕ) → piece_text (Divided d) ≡ with_line_feed (divisor_line d)
unfolding piece_text
divided_text d = append_nothing (with_line_feed (divisor_line d))

pub measured_text : (tag : Option (List ℕ)) (start duration max : ℕ) (field : List ℕ) → piece_text (Measured tag start duration max field) ≡ with_line_feed (interval_line tag start duration max field)
unfolding piece_text
measured_text tag start duration max field = append_nothing (with_line_feed (interval_line tag start duration max field))
