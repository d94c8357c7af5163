mod Parts
mod Places
mod ActLaws
mod RunLaws
mod Turns
mod CallLaws
mod SealLaws
