-- The names of the libraries that the definitions of this crate use.
pub use Rattle.hdr_base.specs.Fractions.{Ratio}
pub use Rattle.hdr_core.specs.Calls.{after_call, IsCallError, CallTo}
pub use Rattle.hdr_log.specs.Grammar.{is_tag, only_if}
pub use Rattle.hdr_log.specs.Parts.{◌>>=◌, split_at_byte, number_of, parts}
pub use Rattle.hdr_log.specs.Tags.{tag_text}
pub use Rattle.hdr_model.specs.Plain.{Plain, empty_plain, IsPlain, resolution}
pub use Rattle.hdr_model.specs.Recording.{after_reset}
pub use Rattle.hdr_tool.specs.declared.fault.Fault.{Fault}
pub use Rattle.hdr_tool.specs.declared.fault.Fault.TheVariants.{Usage, NotACommand, NotWritten, NotALog, NotBase64, NotRead, NoMemory, CannotRead, CannotWrite}
pub use Rattle.hdrhistogram.specs.Chosen.{choice_of, Filter, is_chosen}
pub use Rattle.std.specs.Fmt.{decimal}
pub use Rattle.std.specs.Io.KnownBytes.{IsAtEnd, Appends}
pub use Rattle.std.specs.List.{list_all, filter_map, flat_map, list_any, enumerate_from, AllByRecursion, AllZip}
pub use Rattle.std.specs.Result.{result_err, result_map_both}
pub use Rattle.std.specs.Option.{option_map}
pub use Rattle.std.specs.Str.{bytes_eq}
