-- The contractor's value. Assumes nothing.
use Rattle.contractor.specs.Contractors.{Value}
use Rattle.figures.specs.Idles.{idle}
use Rattle.figures.specs.declared.idle.Idle.{Idle}

abbrev pub idle_value : Idle → Value
idle_value k = idle k.need k.height k.ceiling
