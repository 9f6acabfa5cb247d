-- Episodes: what happened to a tag, and when.
use Rattle.std.specs.Prelude.{ℕ, ◌+◌, ◌-◌, ◌*◌, ◌/◌, ◌^◌, ◌==◌, ◌&&◌, ◌||◌, not, nat_le, Bool, true, false, max, min, List, [], ◌∷◌, length, map, filter, slice_index_or, unwrap_or, Option, Some, None}
use Rattle.std.specs.List.{fold, find, last_or}
use Rattle.std.specs.Option.{option_map}
use Rattle.hdr_verdict.specs.Bars.{bit_length}
use Rattle.hdr_verdict.specs.Rates.{expected}
use Rattle.hdr_verdict.specs.declared.cell.Cell.{Cell}
use Rattle.hdr_verdict.specs.declared.runs.Run.{Run}
use Rattle.hdr_verdict.specs.declared.slow.Rise.{Rise}
use Rattle.hdr_verdict.specs.declared.slow.SlowTime.{SlowTime}
use Rattle.hdr_verdict.specs.declared.missing.MissingTime.{MissingTime}
use Rattle.hdr_verdict.specs.declared.episode.EpisodeKind.{EpisodeKind}
use Rattle.hdr_verdict.specs.declared.episode.EpisodeKind.TheVariants.{Slow, Stall, Gap, Fall}
use Rattle.hdr_verdict.specs.declared.episode.RateChange.{RateChange}
use Rattle.hdr_verdict.specs.declared.episode.Episode.{Episode}

-- what happened to a tag, and when
pub record EpisodeValue : Type 0 where
  pub tag : ℕ
  pub kind : EpisodeKind
  pub start : ℕ
  pub end : ℕ
  pub run : Run
  pub rises : List Rise
  pub rates : Option RateChange
  pub weight : ℕ
  pub lasts : Bool

abbrev pub view_of_episode : Episode → EpisodeValue
view_of_episode e = record {
  tag = e.tag;
  kind = e.kind;
  start = e.start;
  end = e.end;
  run = e.run;
  rises = e.rises.items;
  rates = e.rates;
  weight = e.weight;
  lasts = e.lasts;
}

-- a cell of no time
abbrev pub no_cell : Cell
no_cell = record { start = 0; end = 0; last = 0; samples = 0; first = 0; next = 0 }

abbrev pub cell_at : List Cell → ℕ → Cell
cell_at cells i = slice_index_or cells i no_cell

-- when a run begins, and when the intervals of its last cell end
abbrev pub start_of : List Cell → Run → ℕ
start_of cells run = (cell_at cells run.start).start

abbrev pub end_of : List Cell → Run → ℕ
end_of cells run = (cell_at cells (run.end - 1)).last

-- a slow run begins in a gap, or right after it
abbrev pub begins_in : Run → MissingTime → Bool
begins_in run missing = missing.is_gap && nat_le missing.run.start run.start && nat_le run.start missing.run.end

-- how long two times overlap
abbrev pub overlap : (start end other_start other_end : ℕ) → ℕ
overlap start end other_start other_end = min end other_end - max start other_start

-- half or more of a time in which samples are missing is in a run
abbrev pub is_during : List Cell → Run → MissingTime → Bool
is_during cells run missing =
    let start = start_of cells missing.run in
    let end = end_of cells missing.run in
    nat_le (end - start) (2 * overlap (start_of cells run) (end_of cells run) start end)

-- a time in which samples are missing is a part of a slow run
abbrev pub is_part : List Cell → Run → MissingTime → Bool
is_part cells run missing = begins_in run missing || is_during cells run missing

-- the times in which samples are missing that are a part of no slow run
abbrev pub others : List Cell → Run → List MissingTime → List MissingTime
others cells run missing = filter (λ m. not (is_part cells run m)) missing

-- how far a value is above the usual one: 1 up to 2 times, 2 up to 4 times, 3 up to 8 times, and so on
abbrev pub magnitude : Rise → ℕ
magnitude rise = bit_length (16 * (rise.value + 1) / (unwrap_or rise.usual 0 + 1)) - 4

-- the greatest of these, and at least 1
abbrev pub greatest_magnitude : List Rise → ℕ
greatest_magnitude rises = fold (λ most rise. max most (magnitude rise)) 1 rises

-- the weight of a slow time: the samples that are too many, times how far they are above; at most 2^128 - 1
abbrev pub slow_weight : (excess : ℕ) → List Rise → ℕ
slow_weight excess rises = min (max excess 1 * greatest_magnitude rises) (2 ^ 128 - 1)

-- the weight of a time in which samples are missing: their number, and at least 1
abbrev pub missing_weight : RateChange → (time : ℕ) → ℕ
missing_weight rates time = max (expected rates.usual 1 1 time - rates.rate.samples) 1

abbrev pub change_of : MissingTime → RateChange
change_of missing = record { rate = missing.rate; usual = missing.usual }

-- a run that ended at a time is not over at the end of the log: it has the last cell, and the log ends within as much time
abbrev pub lasts : List Cell → (log_end : ℕ) → Run → (end : ℕ) → Bool
lasts cells log_end run end =
    let last = cell_at cells (run.end - 1) in
    (run.end == length cells) && nat_le (log_end - (last.end - last.start)) end

-- when the gap begins in which a slow run begins, or right after it, if there is one
abbrev pub stall_start : List Cell → Run → List MissingTime → Option ℕ
stall_start cells run missing = option_map (λ gap. min (cell_at cells gap.from).start (start_of cells run)) (find (begins_in run) missing)

-- a time in which samples are missing is in a run, and doesn't begin it
abbrev pub is_fall_during : List Cell → Run → MissingTime → Bool
is_fall_during cells run missing = not (begins_in run missing) && is_during cells run missing

-- the rates of the last of these
abbrev pub last_fall : List Cell → Run → List MissingTime → Option RateChange
last_fall cells run missing = option_map change_of (last_or None (filter (is_fall_during cells run) missing))

-- a slow time is a stall if it begins with a gap
abbrev pub slow_kind : Option ℕ → EpisodeKind
slow_kind None = Slow
slow_kind (Some start) = Stall

abbrev pub missing_kind : (is_gap : Bool) → EpisodeKind
missing_kind true = Gap
missing_kind false = Fall

-- the episode of a slow time, with what is missing in it: from the start of a gap before it, it is a stall
abbrev pub slow_episode : (tag : ℕ) → List Cell → (log_end : ℕ) → List MissingTime → SlowTime → EpisodeValue
slow_episode tag cells log_end missing slow =
    let stall = stall_start cells slow.run missing in
    let end = end_of cells slow.run in
    record {
      tag = tag;
      kind = slow_kind stall;
      start = unwrap_or stall (start_of cells slow.run);
      end = end;
      run = slow.run;
      rises = slow.rises.items;
      rates = last_fall cells slow.run missing;
      weight = slow_weight slow.excess slow.rises.items;
      lasts = lasts cells log_end slow.run end;
    }

-- the episode of a time in which samples are missing
abbrev pub missing_episode : (tag : ℕ) → List Cell → (log_end : ℕ) → MissingTime → EpisodeValue
missing_episode tag cells log_end missing =
    let start = start_of cells missing.run in
    let end = end_of cells missing.run in
    record {
      tag = tag;
      kind = missing_kind missing.is_gap;
      start = start;
      end = end;
      run = missing.run;
      rises = [];
      rates = Some (change_of missing);
      weight = missing_weight (change_of missing) (end - start);
      lasts = lasts cells log_end missing.run end;
    }

-- the episodes of a tag: its slow times, and the times in which samples are missing that are a part of none
abbrev pub episodes_of : (tag : ℕ) → List Cell → (log_end : ℕ) → List SlowTime → List MissingTime → List EpisodeValue
episodes_of tag cells log_end [] missing = map (missing_episode tag cells log_end) missing
episodes_of tag cells log_end (slow ∷ later) missing =
    slow_episode tag cells log_end missing slow ∷ episodes_of tag cells log_end later (others cells slow.run missing)
