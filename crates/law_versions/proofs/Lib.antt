mod AlikeLemmas
mod MoreRoom
mod RoomyPlays
mod WideRounds
