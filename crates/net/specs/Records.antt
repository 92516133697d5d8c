-- The records of a net, which are constraints. Assumes nothing.
use Rattle.std.specs.Prelude.{ℕ, cond, List, [], ◌∷◌, ◌++◌, map, length, take, Ok, Err, Result, nat_lt}
use Rattle.contractor.specs.Contractors.{Value}
use Rattle.contractor.specs.RoundCounts.{count_of}
use Rattle.contractor.specs.declared.build.BuildRefusal.{BuildRefusal}
use Rattle.contractor.specs.declared.build.BuildRefusal.TheVariants.{NetFull}
use Rattle.constraint.specs.Kinds.{constraint_value}
use Rattle.constraint.specs.Mentions.{constraint_cells}
use Rattle.constraint.specs.declared.constraint.Constraint.{Constraint}
use Rattle.net.specs.Nets.{Part, net, most_records}
use Rattle.net.specs.declared.net.Net.{Net}

-- what a net knows of a constraint
abbrev pub part : Constraint → Part
part k = record { value = constraint_value k; cells = constraint_cells k }

abbrev pub parts : List Constraint → List Part
parts = map part

-- the records that a net holds, in order
abbrev pub records : Net → List Constraint
records n = take n.count n.table

-- how many rounds it may take
abbrev pub rounds_of : Net → ℕ
rounds_of n = count_of n.rounds

-- what it is as a contractor
abbrev pub net_value : Net → Value
net_value n = net (parts (records n)) (rounds_of n)

-- what pushing one more answers, and the records after
abbrev pub push_answer : List Constraint → Result (Unit {0}) BuildRefusal
push_answer ks = cond (nat_lt (length ks) most_records) (Ok tt) (Err NetFull)

abbrev pub pushed : List Constraint → Constraint → List Constraint
pushed ks k = cond (nat_lt (length ks) most_records) (ks ++ k ∷ []) ks
