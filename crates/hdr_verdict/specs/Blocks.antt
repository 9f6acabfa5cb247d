-- The blocks of a tag's cells.
use Rattle.std.specs.Prelude.{◌≡◌, ℕ, ◌+◌, ◌*◌, ◌<◌, ◌≤◌, ◌++◌, [], ◌∷◌, List, length, map, take, drop, slice_index_or, Option}
use Rattle.std.specs.List.{All, flat_map, sum_by}
use Rattle.hdr_model.specs.Plain.{Plain, resolution}
use Rattle.hdrhistogram.specs.declared.serialization.class_decoder.RecordedClass.{RecordedClass}
use Rattle.hdr_verdict.specs.ClassSamples.{AreClassesOf}
use Rattle.hdr_verdict.specs.Samples.{Rounds, CanCount, classes_of}
use Rattle.hdr_verdict.specs.Tails.{tail_value}
use Rattle.hdr_verdict.specs.Usual.{blocks_from, least_block, usual_of}
use Rattle.hdr_verdict.specs.declared.usual.Blocks.{Blocks}
use Rattle.hdr_verdict.specs.declared.usual.TailValues.{TailValues}
use Rattle.hdr_verdict.specs.declared.tail.Tail.{Tail}
use Rattle.hdr_verdict.specs.declared.usual.Usual.{Usual}
use Rattle.hdr_verdict.specs.declared.width.Width.{Width}

-- the values of a tail in blocks with these samples, which have `least` of `total` samples or more
pub record AreValuesOf (total least : ℕ) (done : List (List ℕ)) (own : TailValues) : Type 0 where
  pub same_least : least ≡ least_block own.tail.num own.tail.den total
  pub values : own.values.items ≡ map (tail_value own.tail.num own.tail.den) done
  pub halves : own.halves.items ≡ map (tail_value own.tail.num (2 * own.tail.den)) done

-- the values of a block are appended
pub record AppendsBlock (width : Width) (block : Plain) (old new : TailValues) : Type 0 where
  pub tail : new.tail ≡ old.tail
  pub values : (S : List ℕ) → resolution block ≡ classes_of width → Rounds width block S → new.values.items ≡ old.values.items ++ tail_value old.tail.num old.tail.den S ∷ []
  pub halves : (S : List ℕ) → resolution block ≡ classes_of width → Rounds width block S → new.halves.items ≡ old.halves.items ++ tail_value old.tail.num (2 * old.tail.den) S ∷ []

-- the tails of blocks
abbrev pub tails_of : Blocks → List Tail
tails_of blocks = map (λ own. own.tail) blocks.tails.items

-- the blocks of the first n of cells, which have `total` samples in all
pub record AreBlocksOf (width : Width) (cells : List (List ℕ)) (total n : ℕ) (blocks : Blocks) : Type 0 where
  -- the samples of each block, and those since the last one
  pub done : List (List ℕ)
  pub since : List ℕ
  pub same_width : blocks.width ≡ width
  pub classes : resolution blocks.part ≡ classes_of width
  pub part : Rounds width blocks.part since
  pub values : All (AreValuesOf total blocks.least done) blocks.tails.items
  pub few : length since ≤ sum_by length (take n cells)
  pub rest : done ++ blocks_from blocks.least since (drop n cells) ≡ blocks_from blocks.least [] cells

-- the blocks before the first cell
pub record AreNoBlocks (width : Width) (total : ℕ) (blocks : Blocks) : Type 0 where
  pub same_width : blocks.width ≡ width
  pub classes : resolution blocks.part ≡ classes_of width
  pub part : Rounds width blocks.part []
  pub values : All (AreValuesOf total blocks.least []) blocks.tails.items

-- a cell is added to blocks
pub record Pushes (cell : List RecordedClass) (old new : Blocks) : Type 0 where
  pub tails : tails_of new ≡ tails_of old
  pub blocks : (width : Width) (cells : List (List ℕ)) (total n : ℕ) → n < length cells → CanCount cells → AreClassesOf width cell (slice_index_or cells n [])
      → AreBlocksOf width cells total n old → AreBlocksOf width cells total (n + 1) new

-- the values of the tails of all blocks
abbrev pub values_of : List Blocks → List TailValues
values_of all = flat_map (λ blocks. blocks.tails.items) all

-- the blocks before the first cell, for these tails of `total` samples
abbrev pub AreNoBlocksFor : Width → (total : ℕ) → List Tail → List Blocks → Type 0
AreNoBlocksFor width total tails all = All (AreNoBlocks width total) all × (map (λ own. own.tail) (values_of all) ≡ tails)

-- what is usual by the values of all blocks of cells
abbrev pub IsUsualOf : TailValues → Option Usual → Type 0
IsUsualOf own usual = (total least : ℕ) (cells : List (List ℕ)) → AreValuesOf total least (blocks_from least [] cells) own → usual ≡ usual_of own.tail.num own.tail.den total cells
