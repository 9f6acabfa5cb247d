-- Searches for runs of cells with few samples, seen as what they have found.
use Rattle.hdr_verdict.specs.Runs.{view_of_search}
use Rattle.hdr_verdict.specs.Missing.{Rates}
use Rattle.hdr_verdict.specs.declared.missing.RateSearch.{RateSearch}

abbrev pub view_of_rates : RateSearch → Rates
view_of_rates s = record { search = view_of_search s.search; past = s.past.items; usual = s.usual.items }
