mod PayloadLaws
mod IndexLaws
mod UsedLaws
mod ReserveLaws
mod OpenLaws
mod CreateLaws
mod LifeLaws
