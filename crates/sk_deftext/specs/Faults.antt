-- The fault of an error at a place.
use Rattle.std.specs.Prelude.{Option, Some, None}
use Rattle.sk_base.specs.declared.place.Place.{Place}
use Rattle.sk_deftext.specs.declared.fault.DefError.{DefError}
use Rattle.sk_deftext.specs.declared.fault.DefError.TheVariants as error
use Rattle.sk_deftext.specs.declared.fault.DefFault.{DefFault}
use Rattle.sk_deftext.specs.declared.fault.DefFault.TheVariants.{Lex, Unexpected, Unknown, Duplicate, TooMany, NoMemory}

abbrev pub fault_of : DefError → Place → DefFault
fault_of error.Unexpected place = Unexpected place
fault_of error.Unknown place = Unknown place
fault_of error.Duplicate place = Duplicate place
fault_of (error.TooMany which) place = TooMany place which

-- the fault that is the text's, none for want of memory
abbrev pub refusal_of : DefFault → Option DefFault
refusal_of NoMemory = None
refusal_of (Lex why place) = Some (Lex why place)
refusal_of (Unexpected place) = Some (Unexpected place)
refusal_of (Unknown place) = Some (Unknown place)
refusal_of (Duplicate place) = Some (Duplicate place)
refusal_of (TooMany place which) = Some (TooMany place which)
