pub use Rattle.vs_desk.specs.Desk
pub use Rattle.vs_desk.specs.MemoryDesk
pub use Rattle.vs_desk.specs.Places
pub use Rattle.vs_job.specs.Job
pub mod Texts
pub mod Bench
pub mod Example
