-- A step lowers the potential of its own operation and raises that of no other; a begin raises none. It uses Steps and
-- Invariant.
pub mod Readings
pub mod EffectTable
pub mod EffectOnOthers
pub mod RowBounds
pub mod Distance
pub mod ChangesLeft
pub mod SeenByOthers
pub mod SeenByItself
pub mod Waiting
pub mod Answered
pub mod StageChanges
pub mod Falling
pub mod Beginning
