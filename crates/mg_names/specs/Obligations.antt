-- The numbers of the obligations of a certificate, as the answer `no` names them, and their names. This profile's own.
use Rattle.std.specs.Prelude.{ℕ, List, codes}
use Rattle.mg_names.specs.declared.obligations.Obligation.{Obligation}
use Rattle.mg_names.specs.declared.obligations.Obligation.TheVariants.{OpeningCovered, StepsCovered, JoinedMarked, EndedCleared, CreatedUnbound, ResetCovered, NamesLive}

abbrev pub obligation_number : Obligation → ℕ
obligation_number OpeningCovered = 1
obligation_number StepsCovered = 2
obligation_number JoinedMarked = 3
obligation_number EndedCleared = 4
obligation_number CreatedUnbound = 5
obligation_number ResetCovered = 6
obligation_number NamesLive = 7

abbrev pub obligation_name : Obligation → List ℕ
obligation_name OpeningCovered = codes "OpeningCovered"
obligation_name StepsCovered = codes "StepsCovered"
obligation_name JoinedMarked = codes "JoinedMarked"
obligation_name EndedCleared = codes "EndedCleared"
obligation_name CreatedUnbound = codes "CreatedUnbound"
obligation_name ResetCovered = codes "ResetCovered"
obligation_name NamesLive = codes "NamesLive"
