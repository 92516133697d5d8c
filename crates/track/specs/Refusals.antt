-- Why a call on a track is refused, when each reason comes, its number and its words. Assumes nothing.
use Rattle.std.specs.Prelude.{ℕ, ◌+◌, cond, not, ◌&&◌, List, length, Some, None, Option, ◌==◌, nat_le, codes}
use Rattle.tube.specs.Tubes.{is_tube}
use Rattle.tube.specs.declared.row.Row.{Row}
use Rattle.contractor.specs.Contractors.{Value, refusal}
use Rattle.contractor.specs.declared.refusal.UseRefusal.{UseRefusal}
use Rattle.contractor.specs.declared.refusal.UseRefusal.TheVariants.{NotATube as not_a_tube, TooHigh as too_high, TooCostly as too_costly}
use Rattle.track.specs.Limits.{is_allowance}
use Rattle.track.specs.declared.refusal.TrackRefusal.{TrackRefusal}
use Rattle.track.specs.declared.refusal.TrackRefusal.TheVariants.{NotATube, TooHigh, TooCostly, WrongLength, BadAllowance, OverAllowance}

abbrev pub number_of : TrackRefusal → ℕ
number_of NotATube = 7
number_of TooHigh = 8
number_of TooCostly = 9
number_of WrongLength = 10
number_of BadAllowance = 11
number_of OverAllowance = 12

abbrev pub words : TrackRefusal → List ℕ
words NotATube = codes "no tube, or fewer cells than the contractor needs"
words TooHigh = codes "a contractor more than 16 layers high"
words TooCostly = codes "a contractor that may make more than 1,000,000,000 calls"
words WrongLength = codes "a table of another length than the track's first"
words BadAllowance = codes "an allowance outside 1 to 1,000,000,000,000"
words OverAllowance = codes "the calls charged and the contractor's ceiling pass the allowance"

-- the refusals of any use come first on a track too
abbrev pub of_use : UseRefusal → TrackRefusal
of_use not_a_tube = NotATube
of_use too_high = TooHigh
of_use too_costly = TooCostly

-- a making
abbrev pub make_refusal : (committed : List Row) (allowance : ℕ) → Option TrackRefusal
make_refusal committed allowance = cond (not (is_tube committed)) (Some NotATube) (cond (not (is_allowance allowance)) (Some BadAllowance) None)

-- a copy from one table to the other
abbrev pub copy_refusal : (cells : ℕ) (committed work : List Row) → Option TrackRefusal
copy_refusal cells committed work = cond (not (length committed == cells && length work == cells)) (Some WrongLength) None

-- a use: what any use is refused for, then the length, then the allowance
abbrev pub afford_refusal : (cells allowance charged ceiling : ℕ) (work : List Row) → Option TrackRefusal
afford_refusal cells allowance charged ceiling work = cond (not (length work == cells)) (Some WrongLength) (cond (not (nat_le (charged + ceiling) allowance)) (Some OverAllowance) None)

abbrev pub first_of : Option UseRefusal → Option TrackRefusal → Option TrackRefusal
first_of (Some e) later = Some (of_use e)
first_of None later = later

abbrev pub use_refusal : (cells allowance charged : ℕ) → Value → List Row → Option TrackRefusal
use_refusal cells allowance charged v work = first_of (refusal v work) (afford_refusal cells allowance charged v.ceiling work)
