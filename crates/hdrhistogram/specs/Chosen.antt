-- Which intervals of a log are chosen: by tag, and by the time at which they begin. Times are in nanoseconds.
use Rattle.std.specs.Prelude.{ℕ, Bool, true, false, ◌&&◌, nat_le, nat_lt, List, Option, Some, None}
use Rattle.std.specs.Option.{option_map}
use Rattle.std.specs.Duration.{as_nanos}
use Rattle.std.specs.Str.{bytes_eq}
use Rattle.hdr_log.specs.Tags.{tag_text}
use Rattle.hdrhistogram.specs.declared.serialization.interval_log.merge.IntervalFilter.{IntervalFilter}
use Rattle.hdrhistogram.specs.declared.serialization.interval_log.merge.IntervalChoice.{IntervalChoice}
use Rattle.hdrhistogram.specs.declared.serialization.interval_log.merge.TagChoice as code
use Rattle.hdrhistogram.specs.declared.serialization.interval_log.merge.TagChoice.TheVariants as choice

-- every interval, those of one tag, or those without a tag
pub data TagChoice : Type 0 where
  Every : TagChoice
  Tagged : List ℕ → TagChoice
  Untagged : TagChoice

abbrev pub view_of_choice : code.TagChoice → TagChoice
view_of_choice choice.Every = Every
view_of_choice (choice.Tagged tag) = Tagged (tag_text tag)
view_of_choice choice.Untagged = Untagged

-- the chosen tags, the first time, and the time after the last
pub record Filter : Type 0 where
  pub tags : TagChoice
  pub from : Option ℕ
  pub to : Option ℕ

-- the intervals of a tag, if there is one, and otherwise every interval
abbrev pub choice_of : Option (List ℕ) → TagChoice
choice_of None = Every
choice_of (Some tag) = Tagged tag

abbrev pub view_of_filter : IntervalFilter → Filter
view_of_filter f = record { tags = choice_of (option_map tag_text f.tag); from = option_map as_nanos f.from; to = option_map as_nanos f.to }

abbrev pub view_of_interval_choice : IntervalChoice → Filter
view_of_interval_choice c = record { tags = view_of_choice c.tags; from = option_map as_nanos c.from; to = option_map as_nanos c.to }

-- an interval with this tag, or with none, is chosen
abbrev pub chooses_tag : TagChoice → Option (List ℕ) → Bool
chooses_tag Every tag = true
chooses_tag (Tagged wanted) None = false
chooses_tag (Tagged wanted) (Some tag) = bytes_eq tag wanted
chooses_tag Untagged None = true
chooses_tag Untagged (Some tag) = false

abbrev pub begins_from : Option ℕ → ℕ → Bool
begins_from None time = true
begins_from (Some from) time = nat_le from time

abbrev pub begins_before : Option ℕ → ℕ → Bool
begins_before None time = true
begins_before (Some to) time = nat_lt time to

-- an interval is chosen by its tag and by the time at which it begins
unfoldable pub is_chosen : Filter → Option (List ℕ) → ℕ → Bool
is_chosen filter tag time = chooses_tag filter.tags tag && begins_from filter.from time && begins_before filter.to time
