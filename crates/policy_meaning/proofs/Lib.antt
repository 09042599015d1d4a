mod Answers
mod AnswersInTurn
mod Bests
mod DefaultNetwork
mod Given
mod Kernel
mod Levels
mod LevelsInTurn
mod Loopback
mod Meaning
mod OneHolder
pub mod Promised
mod RankLevels
mod Routing
mod RowAnswers
mod TwoWays
