pub mod FiguresHold
pub mod Demands
pub mod SchedulesHold
pub mod ExamplesHold
