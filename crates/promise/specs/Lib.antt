-- Promises over the definitions that the contracts cite.
pub mod Starred
pub mod Demand1
pub mod OtherCalls
pub mod Demand2
pub mod Demand3
pub mod Layouts
pub mod Retried
pub mod Windows
pub mod DrawnMasks
pub mod WholeNumbers
