-- one more answer
pub mod Best
pub mod More
-- the loop
pub mod Turn
-- over answers that the check wrote
pub mod Named
pub mod Released
-- computed examples
pub mod Examples
-- one outcome for each input
pub mod Once
