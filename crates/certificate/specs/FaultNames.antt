-- The faults of a certificate: their numbers, which are their order of precedence, and their names.
use Rattle.std.specs.Prelude.{ℕ, List, codes}
use Rattle.certificate.specs.declared.fault.CertFault.{CertFault}
use Rattle.certificate.specs.declared.fault.CertFault.TheVariants.{NotJson, BadKey, Unknown, EmptySet, TooManyEntries, TooManyPoints, OldVersion}

abbrev pub number_of : CertFault → ℕ
number_of NotJson = 1
number_of BadKey = 2
number_of Unknown = 3
number_of EmptySet = 4
number_of TooManyEntries = 5
number_of TooManyPoints = 6
number_of OldVersion = 7

abbrev pub name_of : CertFault → List ℕ
name_of NotJson = codes "NotJson"
name_of BadKey = codes "BadKey"
name_of Unknown = codes "Unknown"
name_of EmptySet = codes "EmptySet"
name_of TooManyEntries = codes "TooManyEntries"
name_of TooManyPoints = codes "TooManyPoints"
name_of OldVersion = codes "OldVersion"
