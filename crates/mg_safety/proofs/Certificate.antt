-- What a certificate that breaks no obligation gives: points that stand, steps that are covered, names that the script declares.
pub mod ChoiceNumbers
pub mod ListedValues
pub mod Declared
pub mod Points
pub mod OfScript
pub mod OfSteps
pub mod Closed
