-- The records of the lent list. Assumes nothing.
use Rattle.comparing.specs.declared.Difference.{Difference}

-- The record of no difference.
abbrev pub no_record : Difference
no_record = record { first_object = 0; second_object = 0; first_value = 0; second_value = 0 }
