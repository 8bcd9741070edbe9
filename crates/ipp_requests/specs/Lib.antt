pub mod Group
pub mod Media
pub mod Printer
pub mod Reply
pub mod Request
pub mod Submission
pub mod Ticket
