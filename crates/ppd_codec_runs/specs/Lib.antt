-- Recordings of runs, and which are accepted.
pub use Rattle.ppd_session.specs.Known
pub use Rattle.ppd_session.specs.Questions
pub use Rattle.ppd_session.specs.Texts
pub use Rattle.ppd_session.specs.Sessions
pub use Rattle.ppd_session.specs.declared.reply.SessionError
pub use Rattle.ppd_session.specs.Pasts
pub mod Recordings
pub mod Laws
