pub mod Runs
pub mod Crews
pub mod Imaging
pub mod Making
pub mod Opened
pub use Rattle.crew_history.specs.Begun
pub use Rattle.solo_runs.specs.Lines
pub use Rattle.lane_logs.specs.Logs
pub use Rattle.lane_logs.specs.declared.logs.LaneLog as LaneLogs
