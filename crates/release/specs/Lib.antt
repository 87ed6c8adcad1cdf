-- the report over the answers of a release
pub mod Report
-- a release: packs whose answers the check wrote
pub mod Released
